-- Each state of the accepted file's run has ended or has a next goal, and its creates and removes run out: goals still to do fall.
use Rattle.std.specs.Prelude.{◌≡◌, Bool, true, false}
use Rattle.std.proofs.Math.Path.{refl}
use Rattle.std.proofs.Common.{sym}
use Rattle.std.proofs.lemmas.Bool.{false≢true}
use mathlib.Core.List.{List, ◌∷◌, []}
use Prim.Native.Nat.{ℕ, zero, suc, ◌+◌}
use native.Mathlib.Omega.{arith}
use Rattle.language.specs.Lists.{choose}
use Rattle.language.specs.Program.{Step, literal, sum, assign, construct, call, print, create, remove, test, Goals, done, ◌then◌, Goal, step, switch, if_less, try, Program}
use Rattle.language.specs.Annotation.{plain_step}
use Rattle.language.specs.Frames.{Condition, closed, opened, with_goals, returning, settle}
use Rattle.language.specs.AcceptedRun.{RegionFrame, Memory, State, with_frame, going, returning_regions, state, within, state_in, start, failed, take, next, step_from, step_of, steps}
use Rattle.lockstep.specs.Counted.{is_plain, first_goal, next_in, next_goal, price, price_of, spends}

-- ---- a state of the run has ended, or its newest frame has a next goal
pub data EndedOrNext (l : List RegionFrame) : Type 0 where
  over : l ≡ [] → EndedOrNext l
  ready : (f : RegionFrame) (fs : List RegionFrame) (g : Goal) (gs : Goals) → l ≡ f ∷ fs → f.frame.goals ≡ (g then gs) → EndedOrNext l

ready_choose : (b : Bool) (s t : State) → EndedOrNext s.frames → EndedOrNext t.frames → EndedOrNext (choose b s t).frames
unfolding choose
ready_choose true s t p q = p
ready_choose false s t p q = q

module _ (P : Program) where
  ready_settle : (fs : List RegionFrame) (f : RegionFrame) (gs : Goals) → f.frame.goals ≡ gs →
      EndedOrNext (settle (λ e. e.frame.goals) (returning_regions P) fs f gs)
  unfolding settle returning_regions returning
  ready_settle [] f done e = over refl
  ready_settle [] f (g then gs) e = ready f [] g gs refl e
  ready_settle (h ∷ fs) f done e = ready_settle fs (returning_regions P f h) h.frame.goals refl
  ready_settle (h ∷ fs) f (g then gs) e = ready f (h ∷ fs) g gs refl e

  ready_state : (f : RegionFrame) (fs : List RegionFrame) (m : Memory) → EndedOrNext (state P f fs m).frames
  unfolding state
  ready_state f fs m = ready_settle fs f f.frame.goals refl

  ready_within : (c : Condition RegionFrame Memory) (gs : Goals) (f : RegionFrame) (fs : List RegionFrame) (m : Memory) → f.frame.goals ≡ gs →
      EndedOrNext (within P c gs f fs m).frames
  unfolding within
  ready_within closed gs f fs m e = ready_state f fs m
  ready_within (opened a x n) done f fs m e = ready_state _ fs m
  ready_within (opened a x n) (g then gs) f fs m e = ready f fs g gs refl e

  ready_in : (c : Condition RegionFrame Memory) (f : RegionFrame) (fs : List RegionFrame) (m : Memory) → EndedOrNext (state_in P c f fs m).frames
  unfolding state_in
  ready_in c f fs m = ready_within c f.frame.goals f fs m refl

  ready_failed : (c : Condition RegionFrame Memory) (f : RegionFrame) (fs : List RegionFrame) (m : Memory) → EndedOrNext (failed P c f fs m).frames
  unfolding failed
  ready_failed closed f fs m = ready_state f fs m
  ready_failed (opened a e n) f fs m = ready_state e fs _

  ready_take : (c : Condition RegionFrame Memory) (g : Goal) (f : RegionFrame) (fs : List RegionFrame) (m : Memory) → EndedOrNext (take P c g f fs m).frames
  unfolding take
  ready_take c (step (literal x v)) f fs m = ready_in c _ _ _
  ready_take c (step (sum x o y z)) f fs m = ready_in c _ _ _
  ready_take c (step (assign x y)) f fs m = ready_in c _ _ _
  ready_take c (step (construct x k ys)) f fs m = ready_in c _ _ _
  ready_take c (step (call q ys)) f fs m = ready_state _ _ _
  ready_take c (step (print y)) f fs m = ready_in c _ _ _
  ready_take c (step (create r)) f fs m = ready_in c _ _ _
  ready_take c (step (remove r)) f fs m = ready_in c _ _ _
  ready_take c (step (test y z)) f fs m = ready_choose _ _ _ (ready_in c f fs m) (ready_failed c f fs m)
  ready_take c (switch x cs) f fs m = ready_in c _ _ _
  ready_take c (if_less y z gs hs) f fs m = ready_in c _ _ _
  ready_take c (try t a b) f fs m = ready_in _ _ _ _

  ready_next : (gs : Goals) (f : RegionFrame) (fs : List RegionFrame) (s : State) → EndedOrNext s.frames → EndedOrNext (next P gs f fs s).frames
  unfolding next
  ready_next done f fs s r = r
  ready_next (g then gs) f fs s r = ready_choose _ _ s (ready_take s.condition g _ fs _) r

  ready_step : (fs : List RegionFrame) (s : State) → EndedOrNext s.frames → EndedOrNext (step_from P fs s).frames
  unfolding step_from
  ready_step [] s r = r
  ready_step (f ∷ fs) s r = ready_next f.frame.goals f fs s r

  pub ready_steps : (n : ℕ) → EndedOrNext (steps P n).frames
  unfolding steps start step_of
  ready_steps zero = ready_state _ _ _
  ready_steps (suc n) = ready_step (steps P n).frames (steps P n) (ready_steps n)

-- ---- the goals still to do in all frames
unfoldable pub goals_left : Goals → ℕ
goals_left done = 0
goals_left (g then gs) = suc (goals_left gs)

unfoldable pub to_do : List RegionFrame → ℕ
to_do [] = 0
to_do (f ∷ fs) = goals_left f.frame.goals + to_do fs

-- .. in all frames and behind an open condition
unfoldable pub to_follow : Condition RegionFrame Memory → ℕ
to_follow closed = 0
to_follow (opened a e n) = goals_left a

unfoldable pub to_do_in : State → ℕ
to_do_in s = to_follow s.condition + to_do s.frames

module _ (P : Program) where
  left_settle : (fs : List RegionFrame) (f : RegionFrame) (gs : Goals) → f.frame.goals ≡ gs →
      to_do (settle (λ e. e.frame.goals) (returning_regions P) fs f gs) ≡ goals_left gs + to_do fs
  unfolding settle to_do goals_left returning_regions returning
  left_settle [] f done e = refl
  left_settle [] f (g then gs) e = rw e
  left_settle (h ∷ fs) f done e = let i = left_settle fs (returning_regions P f h) h.frame.goals refl in omega arith
  left_settle (h ∷ fs) f (g then gs) e = rw e

  left_state : (f : RegionFrame) (fs : List RegionFrame) (m : Memory) → to_do (state P f fs m).frames ≡ goals_left f.frame.goals + to_do fs
  unfolding state
  left_state f fs m = left_settle fs f f.frame.goals refl

  left_within : (c : Condition RegionFrame Memory) (gs : Goals) (f : RegionFrame) (fs : List RegionFrame) (m : Memory) → f.frame.goals ≡ gs →
      to_do_in (within P c gs f fs m) ≡ to_follow c + (goals_left gs + to_do fs)
  unfolding within to_do_in to_follow to_do goals_left state with_frame with_goals
  left_within closed gs f fs m e = rw (← e) (omega (arith, left_state f fs m))
  left_within (opened a x n) done f fs m e = omega (arith, left_state (going f a) fs m)
  left_within (opened a x n) (g then gs) f fs m e = rw e

  left_in : (c : Condition RegionFrame Memory) (f : RegionFrame) (fs : List RegionFrame) (m : Memory) →
      to_do_in (state_in P c f fs m) ≡ to_follow c + (goals_left f.frame.goals + to_do fs)
  unfolding state_in
  left_in c f fs m = left_within c f.frame.goals f fs m refl

  -- a create or a remove adds no goals
  left_step : (c : Condition RegionFrame Memory) (g : Step) (f : RegionFrame) (fs : List RegionFrame) (m : Memory) → plain_step g ≡ false →
      to_do_in (take P c (step g) f fs m) ≡ to_follow c + (goals_left f.frame.goals + to_do fs)
  unfolding take plain_step
  left_step c (literal x v) f fs m q = absurd (false≢true (sym q))
  left_step c (sum x o y z) f fs m q = absurd (false≢true (sym q))
  left_step c (assign x y) f fs m q = absurd (false≢true (sym q))
  left_step c (construct x k ys) f fs m q = absurd (false≢true (sym q))
  left_step c (call p ys) f fs m q = absurd (false≢true (sym q))
  left_step c (print y) f fs m q = absurd (false≢true (sym q))
  left_step c (create r) f fs m q = left_in c _ fs _
  left_step c (remove r) f fs m q = left_in c f fs _
  left_step c (test y z) f fs m q = absurd (false≢true (sym q))

  left_take : (c : Condition RegionFrame Memory) (g : Goal) (f : RegionFrame) (fs : List RegionFrame) (m : Memory) → is_plain g ≡ false →
      to_do_in (take P c g f fs m) ≡ to_follow c + (goals_left f.frame.goals + to_do fs)
  unfolding is_plain
  left_take c (step g) f fs m q = left_step c g f fs m q
  left_take c (switch x cs) f fs m q = absurd (false≢true (sym q))
  left_take c (if_less y z gs hs) f fs m q = absurd (false≢true (sym q))
  left_take c (try t a b) f fs m q = absurd (false≢true (sym q))

-- ---- a step from a state with a next goal
-- the newest frame, with the others still to do
abbrev pub rest : RegionFrame → Goals → RegionFrame
rest f gs = with_frame f (with_goals f.frame gs)

module _ (P : Program) (s : State) (f : RegionFrame) (fs : List RegionFrame) (g : Goal) (gs : Goals)
    (e : s.frames ≡ f ∷ fs) (h : f.frame.goals ≡ (g then gs)) where
  pub ready_spends : spends P s ≡ price (is_plain g)
  unfolding spends next_goal next_in first_goal price_of
  ready_spends = rw (e, h)

  -- once a create or a remove is taken, there is one goal less to do
  pub falls : step_of P s ≡ take P s.condition g (rest f gs) fs s.memory → is_plain g ≡ false → suc (to_do_in (step_of P s)) ≡ to_do_in s
  unfolding to_do_in to_do goals_left with_frame with_goals
  falls t q = rw (t, e, h) (omega (arith, left_take P s.condition g (rest f gs) fs s.memory q))
