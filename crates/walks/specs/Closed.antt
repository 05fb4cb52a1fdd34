-- A walk fails closed: where it tests that a goal is a step, or that a record is an arm, the test passes.
use Rattle.std.specs.Prelude.{ℕ, Bool, false, List, ◌≡◌}
use Rattle.std.proofs.Common.{sym, ◌∙◌}
use Rattle.std.proofs.Math.Path.{ap}
use Rattle.sets.specs.Tests.{clash}
use Rattle.language.specs.File.{k_arm, goals, arms, word}
use Rattle.language.specs.Format.{kind_word, switch_kind, if_kind, try_kind, arm_kind}
use Rattle.language.specs.Program.{Step}
use Rattle.chains.specs.Layout.{all_rows}
use Rattle.chains.specs.Formed.{Formed, Stands, first_goal, goal_at}
use Rattle.tables.specs.Filled.{GoalIsStep}
use Rattle.walks.specs.Steps.{is_step, step_kind, arm_kind_law, arm_some}
use Rattle.chains.specs.Shapes.{step_here, kind_number}

module _ {f : List ℕ} (F : Formed f) (i : ℕ) (S : Stands f goals i) (z : i ≡ 0 → ⊥) {w : ℕ} (e : w ≡ word f i kind_word) (p : w ≡ switch_kind → ⊥)
    (q : w ≡ if_kind → ⊥) (r : w ≡ try_kind → ⊥) where
  pub one : Step
  one = (step_here F S z e p q r).one

  pub one_at : GoalIsStep f i one
  unfolding goal_at first_goal one
  one_at = record { stands = S; some = z; view = ap first_goal (step_here F S z e p q r).view }

  pub goal_closed : {A : Type 0} {b : Bool} → b ≡ is_step w → b ≡ false → A
  goal_closed h k = absurd (clash (ap is_step e ∙ step_kind i F one one_at) (sym h ∙ k))

pub arm_closed : {f : List ℕ} {i : ℕ} → Stands f arms i → (i ≡ 0 → ⊥) → {A : Type 0} {w : ℕ} → w ≡ word f i kind_word → (w ≡ arm_kind → ⊥) → A
unfolding all_rows
arm_closed {f} {i} S z e h = absurd (h (e ∙ kind_number (word f i kind_word) k_arm (arm_kind_law f i S z) arm_some))
