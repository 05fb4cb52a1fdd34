-- What goes wrong in the run of a file that breaks a rule, were it allowed: a goal that is not allowed, at which the run stays for good, or an end
-- with a region still alive. And what is shown of each file.
use Rattle.std.specs.Prelude.{ℕ, ◌+◌, Bool, true, false, ◌≡◌, Ok, Err}
use mathlib.Core.List.{List, ◌∷◌, []}
use Rattle.std.proofs.Math.Path.{refl, sym, ap}
use Rattle.std.proofs.Common.{◌∙◌}
use native.Mathlib.Omega.{arith}
use Rattle.sets.specs.Tests.{neg, neg_true, clash}
use Rattle.language.specs.declared.Refusal.TheVariants.{Rules}
use Rattle.language.specs.Lists.{all, up_from}
use Rattle.language.specs.Program.{Goals, done, ◌then◌, Program}
use Rattle.language.specs.AcceptedRun.{RegionFrame, Memory, State, allowed, step_from, step_of, steps}
use Rattle.language.specs.Answers.{program, checked}
use Rattle.laws.specs.Runs.{stays_for_region, stays_on}
use Rattle.needed.specs.Without.{Rule, checked_without}

module _ (P : Program) where
  -- the newest frame has a goal, and it is not allowed
  unfoldable pub stuck_at : Goals → RegionFrame → Memory → Bool
  stuck_at done f m = false
  stuck_at (g then gs) f m = neg (allowed P g f m)

  unfoldable pub stuck_in : List RegionFrame → Memory → Bool
  stuck_in [] m = false
  stuck_in (f ∷ fs) m = stuck_at f.frame.goals f m

  unfoldable pub stuck : State → Bool
  stuck s = stuck_in s.frames s.memory

  goals_stay : (gs : Goals) (f : RegionFrame) (fs : List RegionFrame) (s : State) → s.frames ≡ f ∷ fs → f.frame.goals ≡ gs
      → stuck_at gs f s.memory ≡ true → step_of P s ≡ s
  unfolding stuck_at
  goals_stay done f fs s q h e = absurd (clash e refl)
  goals_stay (g then gs) f fs s q h e = stays_for_region P s f fs g gs q h (neg_true e)

  frames_stay : (fs : List RegionFrame) (s : State) → s.frames ≡ fs → stuck_in fs s.memory ≡ true → step_of P s ≡ s
  unfolding stuck_in
  frames_stay [] s q e = absurd (clash e refl)
  frames_stay (f ∷ fs) s q e = goals_stay f.frame.goals f fs s q refl e

  -- a run that is stuck stays where it is, and so does one that has ended
  pub stuck_stays : (s : State) → stuck s ≡ true → step_of P s ≡ s
  unfolding stuck
  stuck_stays s e = frames_stay s.frames s refl e

  pub ended_stays : (s : State) → s.frames ≡ [] → step_of P s ≡ s
  unfolding step_of step_from
  ended_stays s e = rw e

  -- the run stays at one state only
  one_place : (m n : ℕ) → step_of P (steps P m) ≡ steps P m → step_of P (steps P n) ≡ steps P n → steps P m ≡ steps P n
  unfolding steps
  one_place m n d e =
      let swap : n + m ≡ m + n = omega arith in
      let on = stays_on (step_of P) (steps P) (λ k. refl) in
      sym (on m d n) ∙ ap (steps P) (sym swap) ∙ on n e m

  stuck_goes_on : (s : State) → stuck s ≡ true → s.frames ≡ [] → ⊥
  unfolding stuck stuck_in
  stuck_goes_on s e d = clash (rw d at e) refl

-- what goes wrong in the run of f
pub data Fault (f : List ℕ) : Type 0 where
  -- after n steps it is at a goal that is not allowed
  stays : (n : ℕ) → stuck (program f) (steps (program f) n) ≡ true → Fault f
  -- after n steps it has ended, and region k is still alive
  leaks : (n k : ℕ) → (steps (program f) n).frames ≡ [] → (steps (program f) n).memory.alive k ≡ true → Fault f

-- a run with a fault never ends with every region removed
pub never_clean : (f : List ℕ) → Fault f → (m : ℕ) → (steps (program f) m).frames ≡ []
    → (k : ℕ) × ((steps (program f) m).memory.alive k ≡ true)
never_clean f (stays n e) m d =
    let P = program f in
    let same : steps P m ≡ steps P n = one_place P m n (ended_stays P (steps P m) d) (stuck_stays P (steps P n) e) in
    absurd (stuck_goes_on P (steps P m) (ap (stuck P) same ∙ e) d)
never_clean f (leaks n k e a) m d =
    let P = program f in
    (k, ap (λ s. s.memory.alive k) (one_place P m n (ended_stays P (steps P m) d) (ended_stays P (steps P n) e)) ∙ a)

-- after n steps the run of f has ended, and every region that was made is removed
pub record Clean (f : List ℕ) (n : ℕ) : Type 0 where
  pub ended : (steps (program f) n).frames ≡ []
  pub removed : all (λ k. neg ((steps (program f) n).memory.alive k)) (up_from 1 (steps (program f) n).memory.made) ≡ true

-- a file that the checker refuses for the rules rs alone, and whose run goes wrong
pub record Needed (rs : List Rule) : Type 0 where
  pub bytes : List ℕ
  pub refused : checked bytes ≡ Err Rules
  pub accepted : checked_without rs bytes ≡ Ok tt
  pub wrong : Fault bytes
