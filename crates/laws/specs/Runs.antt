-- Laws of the two runs of demand 3: a step takes the newest frame's next goal, or the run stays there; and a run that stays once stays for good.
use Rattle.std.specs.Prelude.{ℕ, zero, suc, ◌+◌, Bool, List, [], ◌∷◌, map, ◌≡◌}
use Rattle.std.proofs.Math.Bool.{true, false}
use Rattle.std.proofs.lemmas.Bool.{false≢true}
use Rattle.std.proofs.Math.Path.{refl, ap}
use Rattle.std.proofs.Common.{◌∙◌}
use Rattle.std.proofs.Math.Numerals.{unary_clauses}
use Rattle.sets.specs.Tests.{neg_true, true_and}
use Rattle.language.specs.Lists.{choose}
use Rattle.language.specs.Program.{test, Goals, done, ◌then◌, Goal, step, if_less, try, ◌before◌, Program}
use Rattle.language.specs.Frames.{Frame, closed, opened, ahead, less_in, branch_in, fits, fits_step, over_ahead, stays_at_sum, with_goals}
use Rattle.language.specs.PlainRun.{PlainState, plain_take, plain_next, plain_from, plain_step_of}
use Rattle.language.specs.AcceptedRun.{RegionFrame, State, frame_of, restored, with_frame, going, state, within, state_in, failed, allowed, take, next, step_from, step_of}
use Rattle.laws.specs.Tests.{and_no, no_and}
use Rattle.laws.specs.Choices.{choose_true, choose_false}

-- ---- the accepted file's run
module _ (P : Program) (s : State) (f : RegionFrame) (fs : List RegionFrame) (g : Goal) (gs : Goals)
    (e : s.frames ≡ f ∷ fs) (h : f.frame.goals ≡ (g then gs)) where
  step_next : step_of P s ≡ next P (g then gs) f fs s
  unfolding step_of step_from
  step_next = ap (λ l. step_from P l s) e ∙ ap (λ l. next P l f fs s) h

  pub taken : fits g f.frame ≡ true → allowed P g f s.memory ≡ true
      → step_of P s ≡ take P s.condition g (with_frame f (with_goals f.frame gs)) fs s.memory
  unfolding next
  taken n a = step_next ∙ choose_true _ _ s (true_and n a)

  -- at a sum out of range, and for a region
  pub stays_at_sum_law : fits g f.frame ≡ false → step_of P s ≡ s
  unfolding next
  stays_at_sum_law n = step_next ∙ choose_false _ _ s (no_and (allowed P g f s.memory) n)

  pub stays_for_region : allowed P g f s.memory ≡ false → step_of P s ≡ s
  unfolding next
  stays_for_region a = step_next ∙ choose_false _ _ s (and_no (fits g f.frame) a)

pub sum_stays : (P : Program) (s : State) → stays_at_sum (map frame_of s.frames) ≡ true → step_of P s ≡ s
unfolding over_ahead stays_at_sum frame_of
sum_stays P s = from s.frames refl
  where
    at : (f : RegionFrame) (fs : List RegionFrame) (gs : Goals) → s.frames ≡ f ∷ fs → f.frame.goals ≡ gs → over_ahead gs f.frame ≡ true → step_of P s ≡ s
    at f fs done e h o = absurd (false≢true o)
    at f fs (g then gs) e h o = stays_at_sum_law P s f fs g gs e h (neg_true o)

    from : (l : List RegionFrame) → s.frames ≡ l → stays_at_sum (map frame_of l) ≡ true → step_of P s ≡ s
    from [] e o = absurd (false≢true o)
    from (f ∷ fs) e o = at f fs f.frame.goals e refl o

-- ---- the plain run
module _ (P : Program) (f : Frame) (fs : List Frame) (s : PlainState) where
  pub plain_taken : (g : Goal) (gs : Goals) → fits g f ≡ true → plain_next P (g then gs) f fs s ≡ plain_take P s.condition g (with_goals f gs) fs s.cells s.printed
  unfolding plain_next
  plain_taken g gs n = choose_true _ _ s n

  pub plain_stays_law : (gs : Goals) → over_ahead gs f ≡ true → plain_next P gs f fs s ≡ s
  unfolding over_ahead plain_next
  plain_stays_law done o = refl
  plain_stays_law (g then gs) o = choose_false _ _ s (neg_true o)

pub plain_sum_stays : (P : Program) (s : PlainState) → stays_at_sum s.frames ≡ true → plain_step_of P s ≡ s
unfolding plain_step_of stays_at_sum plain_from
plain_sum_stays P s = from s.frames
  where
    from : (l : List Frame) → stays_at_sum l ≡ true → plain_from P l s ≡ s
    from [] o = refl
    from (f ∷ fs) o = plain_stays_law P f fs s f.goals o

-- ---- any run: a step is taken again and again
pub stays_on : {S : Type 0} (next : S → S) (run : ℕ → S) → ((n : ℕ) → run (suc n) ≡ next (run n)) → (n : ℕ) → next (run n) ≡ run n
    → (k : ℕ) → run (n + k) ≡ run n
stays_on next run again n e zero = simp unary_clauses
stays_on next run again n e (suc k) = simp unary_clauses (again (n + k) ∙ ap next (stays_on next run again n e k) ∙ e)

-- ---- a try with one test does in two steps what an if does in one: "Kind 14 does nothing that a try with one test can't" (C-21)
module _ (P : Program) (s : State) (f : RegionFrame) (fs : List RegionFrame) (y z : ℕ) (a b gs : Goals)
    (e : s.frames ≡ f ∷ fs) (h : f.frame.goals ≡ (try (step (test y z) then done) a b then gs)) (c : s.condition ≡ closed) where
  -- after the first step the condition is open, with its test ahead
  abbrev in_test : State
  in_test = record {
    frames = going f (step (test y z) then done) ∷ fs;
    memory = s.memory;
    condition = opened (a before gs) (going f (b before gs)) s.memory;
  }

  first_step : step_of P s ≡ in_test
  unfolding fits allowed take state_in within ahead with_frame with_goals
  first_step =
      taken P s f fs (try (step (test y z) then done) a b) gs e h refl refl
      ∙ ap (λ d. take P d (try (step (test y z) then done) a b) (with_frame f (with_goals f.frame gs)) fs s.memory) c

  -- the test goes on to the then part, or fails back to the else part
  branches : (t : Bool) → choose t (state_in P in_test.condition (going f done) fs s.memory) (failed P in_test.condition (going f done) fs s.memory)
      ≡ state P (going f (choose t a b before gs)) fs s.memory
  unfolding choose state_in within failed restored with_frame with_goals
  branches true = refl
  branches false = refl

  second_step : step_of P in_test ≡ state P (going f (choose (less_in f.frame y z) a b before gs)) fs s.memory
  unfolding fits fits_step allowed take less_in with_frame with_goals
  second_step =
      taken P in_test (going f (step (test y z) then done)) fs (step (test y z)) done refl refl refl refl ∙ branches (less_in f.frame y z)

  pub one_test : step_of P (step_of P s) ≡ take P closed (if_less y z a b) (with_frame f (with_goals f.frame gs)) fs s.memory
  unfolding take state_in within branch_in less_in with_frame with_goals
  one_test = ap (step_of P) first_step ∙ second_step
