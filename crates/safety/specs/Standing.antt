-- Number 2 along a run (C-20): in an open condition the next goal is no call, print, if or try, and outside it is no test. So what `take` does with a test
-- outside a condition, or with a call or a try in one, never comes up.
use Rattle.std.specs.Prelude.{◌≡◌, Bool, eqb}
use Rattle.std.proofs.Math.Path.{refl, ap}
use Rattle.std.proofs.Common.{sym, ◌∙◌}
use Rattle.std.proofs.Math.Bool.{true, false}
use Rattle.std.proofs.lemmas.Bool.{false≢true}
use mathlib.Core.List.{List, [], ◌∷◌}
use Prim.Native.Nat.{ℕ, zero, suc}
use Rattle.sets.specs.Tests.{◌&◌, neg, and_true, true_and}
use Rattle.language.specs.Lists.{choose}
use Rattle.language.specs.Program.{arguments_of, literal, sum, assign, construct, call, print, create, remove, test, Goals, done, ◌then◌, Goal, step, switch, if_less, try, Arms, no_arms, arm, ◌before◌, Procedure, Program, procedure_at}
use Rattle.language.specs.Conditions.{step_stands, goals_stand, goal_stands, arms_stand, conditions_ok}
use Rattle.language.specs.Frames.{Value, Frame, Cell, Condition, closed, opened, ahead, with_goals, giving, literal_in, sum_in, assign_in, build_in, branch_in, Picked, picked, pick, enter_arm, open_cell, callee_frame, returning, entry_frame, settle}
use Rattle.language.specs.AcceptedRun.{RegionFrame, Memory, State, with_frame, going, whole, callee_regions, returning_regions, state, within, state_in, start, failed, take, next, step_from, step_of, steps}
use Rattle.laws.specs.Lists.{all_or_default}

unfoldable pub is_open : Condition RegionFrame Memory → Bool
is_open closed = false
is_open (opened a e n) = true

-- the goals of waiting frames, those that follow a condition and those that are saved stand in none
abbrev Waiting : List RegionFrame → Type 0
Waiting [] = Unit {0}
Waiting (f ∷ fs) = (goals_stand false f.frame.goals ≡ true) × Waiting fs

abbrev Behind : Condition RegionFrame Memory → Type 0
Behind closed = Unit {0}
Behind (opened a e n) = (goals_stand false a ≡ true) × (goals_stand false e.frame.goals ≡ true)

data Standing (s : State) : Type 0 where
  ended : s.frames ≡ [] → Standing s
  stands : {f : RegionFrame} {fs : List RegionFrame} → s.frames ≡ f ∷ fs → goals_stand (is_open s.condition) f.frame.goals ≡ true
      → Waiting fs → Behind s.condition → Standing s

-- ---- goals
stand_before : (i : Bool) (gs hs : Goals) → goals_stand i gs ≡ true → goals_stand i hs ≡ true → goals_stand i (gs before hs) ≡ true
unfolding goals_stand ◌before◌
stand_before i done hs p q = q
stand_before i (g then gs) hs p q = let r = and_true p in true_and r.0 (stand_before i gs hs r.1 q)

stand_choose : (i b : Bool) (gs hs : Goals) → goals_stand i gs ≡ true → goals_stand i hs ≡ true → goals_stand i (choose b gs hs) ≡ true
unfolding choose
stand_choose i true gs hs p q = p
stand_choose i false gs hs p q = q

picked_stands : (i b : Bool) (ys : List ℕ) (gs : Goals) (p : Picked) (vs : List Value) (f : Frame) → goals_stand i gs ≡ true
    → goals_stand i f.goals ≡ true → goals_stand i (enter_arm p vs f).goals ≡ true → goals_stand i (enter_arm (choose b (picked ys gs) p) vs f).goals ≡ true
unfolding choose enter_arm
picked_stands i true ys gs p vs f a q r = stand_before i gs f.goals a q
picked_stands i false ys gs p vs f a q r = r

arm_stands : (i : Bool) (cs : Arms) (k : ℕ) (vs : List Value) (f : Frame) → arms_stand i cs ≡ true → goals_stand i f.goals ≡ true
    → goals_stand i (enter_arm (pick cs k) vs f).goals ≡ true
unfolding arms_stand pick enter_arm
arm_stands i no_arms k vs f p q = q
arm_stands i (arm g ys gs cs) k vs f p q =
    let r = and_true p in picked_stands i (eqb g k) (arguments_of ys) gs (pick cs k) vs f r.0 q (arm_stands i cs k vs f r.1 q)

-- ---- states
standing_choose : (b : Bool) (s t : State) → Standing s → Standing t → Standing (choose b s t)
unfolding choose
standing_choose true s t p q = p
standing_choose false s t p q = q

module _ (P : Program) where
  settle_stands : (fs : List RegionFrame) (f : RegionFrame) (m : Memory) (gs : Goals) → f.frame.goals ≡ gs → goals_stand false gs ≡ true → Waiting fs
      → Standing (record { frames = settle (λ e. e.frame.goals) (returning_regions P) fs f gs; memory = m; condition = closed })
  unfolding settle returning_regions returning is_open
  settle_stands [] f m done e p w = ended refl
  settle_stands [] f m (g then gs) e p w = stands refl (ap (goals_stand false) e ∙ p) tt tt
  settle_stands (b ∷ fs) f m done e p w = settle_stands fs (returning_regions P f b) m b.frame.goals refl w.0 w.1
  settle_stands (b ∷ fs) f m (g then gs) e p w = stands refl (ap (goals_stand false) e ∙ p) w tt

  state_stands : (f : RegionFrame) (fs : List RegionFrame) (m : Memory) → goals_stand false f.frame.goals ≡ true → Waiting fs
      → Standing (state P f fs m)
  unfolding state
  state_stands f fs m p w = settle_stands fs f m f.frame.goals refl p w

  within_stands : (c : Condition RegionFrame Memory) (gs : Goals) (f : RegionFrame) (fs : List RegionFrame) (m : Memory) → f.frame.goals ≡ gs
      → goals_stand (is_open c) f.frame.goals ≡ true → Waiting fs → Behind c → Standing (within P c gs f fs m)
  unfolding within is_open with_frame with_goals
  within_stands closed gs f fs m e p w h = state_stands f fs m p w
  within_stands (opened a x n) done f fs m e p w h = state_stands _ fs m h.0 w
  within_stands (opened a x n) (g then gs) f fs m e p w h = stands refl p w h

  in_stands : (c : Condition RegionFrame Memory) (f : RegionFrame) (fs : List RegionFrame) (m : Memory)
      → goals_stand (is_open c) f.frame.goals ≡ true → Waiting fs → Behind c → Standing (state_in P c f fs m)
  unfolding state_in
  in_stands c f fs m p w h = within_stands c f.frame.goals f fs m refl p w h

  failed_stands : (c : Condition RegionFrame Memory) (f : RegionFrame) (fs : List RegionFrame) (m : Memory)
      → goals_stand (is_open c) f.frame.goals ≡ true → Waiting fs → Behind c → Standing (failed P c f fs m)
  unfolding failed is_open
  failed_stands closed f fs m p w h = state_stands f fs m p w
  failed_stands (opened a e n) f fs m p w h = state_stands e fs _ h.1 w

module _ (P : Program) (ok : conditions_ok P ≡ true) where
  body_stands : (q : ℕ) → goals_stand false (procedure_at P q).body ≡ true
  unfolding conditions_ok procedure_at goals_stand
  body_stands q = all_or_default (λ (p : Procedure). goals_stand false p.body) _ refl P.procedures q ok

  -- a call and a try stand in no condition
  call_stands : (c : Condition RegionFrame Memory) (q : ℕ) (ys : List ℕ) (f : RegionFrame) (fs : List RegionFrame) (m : Memory) → neg (is_open c) ≡ true
      → goals_stand (is_open c) f.frame.goals ≡ true → Waiting fs → Standing (state P (callee_regions P f q ys) (whole c f ∷ fs) m)
  unfolding is_open neg callee_regions callee_frame whole ahead with_frame with_goals
  call_stands closed q ys f fs m g p w = state_stands P _ _ m (body_stands q) (p, w)
  call_stands (opened a e n) q ys f fs m g p w = absurd (false≢true g)

  try_stands : (c : Condition RegionFrame Memory) (t a b : Goals) (f : RegionFrame) (fs : List RegionFrame) (m : Memory)
      → goal_stands (is_open c) (try t a b) ≡ true → goals_stand (is_open c) f.frame.goals ≡ true → Waiting fs
      → Standing (state_in P (opened (a before ahead c f.frame.goals) (going f (b before ahead c f.frame.goals)) m) (going f t) fs m)
  unfolding is_open neg goal_stands ahead with_frame with_goals ◌&◌
  try_stands closed t a b f fs m g p w =
      let r = and_true g in
      let u = and_true r.1 in
      in_stands P _ _ fs m r.0 w (stand_before false a _ u.0 p, stand_before false b _ u.1 p)
  try_stands (opened x e n) t a b f fs m g p w = absurd (false≢true g)

  take_stands : (c : Condition RegionFrame Memory) (g : Goal) (f : RegionFrame) (fs : List RegionFrame) (m : Memory) → goal_stands (is_open c) g ≡ true
      → goals_stand (is_open c) f.frame.goals ≡ true → Waiting fs → Behind c → Standing (take P c g f fs m)
  unfolding take goal_stands step_stands with_frame with_goals literal_in sum_in assign_in build_in giving branch_in open_cell
  take_stands c (step (literal x v)) f fs m g p w h = in_stands P c _ fs m p w h
  take_stands c (step (sum x o y z)) f fs m g p w h = in_stands P c _ fs m p w h
  take_stands c (step (assign x y)) f fs m g p w h = in_stands P c _ fs m p w h
  take_stands c (step (construct x k ys)) f fs m g p w h = in_stands P c _ fs _ p w h
  take_stands c (step (call q ys)) f fs m g p w h = call_stands c q ys f fs m g p w
  take_stands c (step (print y)) f fs m g p w h = in_stands P c f fs _ p w h
  take_stands c (step (create r)) f fs m g p w h = in_stands P c _ fs _ p w h
  take_stands c (step (remove r)) f fs m g p w h = in_stands P c f fs _ p w h
  take_stands c (step (test y z)) f fs m g p w h = standing_choose _ _ _ (in_stands P c f fs m p w h) (failed_stands P c f fs m p w h)
  take_stands c (switch x cs) f fs m g p w h = in_stands P c _ fs m (arm_stands (is_open c) cs _ _ f.frame g p) w h
  take_stands c (if_less y z a b) f fs m g p w h =
      let r = and_true (and_true g).1 in
      in_stands P c _ fs m (stand_before (is_open c) _ f.frame.goals (stand_choose (is_open c) _ a b r.0 r.1) p) w h
  take_stands c (try t a b) f fs m g p w h = try_stands c t a b f fs m g p w

  next_stands : (gs : Goals) (f : RegionFrame) (fs : List RegionFrame) (s : State) → s.frames ≡ f ∷ fs → f.frame.goals ≡ gs
      → goals_stand (is_open s.condition) f.frame.goals ≡ true → Waiting fs → Behind s.condition → Standing (next P gs f fs s)
  unfolding next goals_stand with_frame with_goals
  next_stands done f fs s e q p w h = stands e p w h
  next_stands (g then gs) f fs s e q p w h =
      let r = and_true (ap (goals_stand (is_open s.condition)) (sym q) ∙ p) in
      standing_choose _ _ s (take_stands s.condition g _ fs _ r.0 r.1 w h) (stands e p w h)

  step_from_law : (s : State) (l : List RegionFrame) → s.frames ≡ l → step_of P s ≡ step_from P l s
  unfolding step_of
  step_from_law s l e = ap (λ (es : List RegionFrame). step_from P es s) e

  step_stands_law : (s : State) → Standing s → Standing (step_of P s)
  unfolding step_from
  step_stands_law s (ended e) = rw (step_from_law s _ e) (ended e)
  step_stands_law s (stands {f = f} {fs = fs} e p w h) = rw (step_from_law s _ e) (next_stands f.frame.goals f fs s e refl p w h)

  steps_stand : (n : ℕ) → Standing (steps P n)
  unfolding steps start entry_frame
  steps_stand zero = state_stands P _ [] _ (body_stands 0) tt
  steps_stand (suc n) = step_stands_law (steps P n) (steps_stand n)

  -- THE THEOREM
  pub next_goal_stands : (n : ℕ) (f : RegionFrame) (fs : List RegionFrame) (g : Goal) (gs : Goals) → (steps P n).frames ≡ f ∷ fs
      → f.frame.goals ≡ g then gs → goal_stands (is_open (steps P n).condition) g ≡ true
  unfolding goals_stand
  next_goal_stands n f fs g gs e q = go (steps_stand n)
    where
      go : Standing (steps P n) → goal_stands (is_open (steps P n).condition) g ≡ true
      go (ended z) = absurd (false≢true (cc))
      go (stands {f = b} z p w h) =
          let a : b ≡ f = cc in
          (and_true (ap (λ (gs : Goals). goals_stand (is_open (steps P n).condition) gs) (sym q ∙ ap (λ (x : RegionFrame). x.frame.goals) (sym a)) ∙ p)).0
