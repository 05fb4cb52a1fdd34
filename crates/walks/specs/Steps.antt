-- The kinds of steps, and the kind of a record that a step or an arm stands at.
use Rattle.std.specs.Prelude.{ℕ, ◌≤◌, Bool, true, false, List, [], ◌∷◌, ◌⊎◌}
use Rattle.std.proofs.Common.{arith}
use Rattle.std.proofs.Math.Path.{◌≡◌, refl}
use Rattle.std.proofs.lemmas.Bool.Decides.{nat_tests}
use Rattle.sets.specs.Tests.{◌or◌}
use Rattle.sets.specs.Members.{in_list}
use Rattle.language.specs.Format.{literal_kind, sum_kind, assign_kind, construct_kind, call_kind, print_kind, create_kind, remove_kind, test_kind, kind_word}
use Rattle.language.specs.File.{GoalKind, k_literal, k_sum, k_assign, k_construct, k_switch, k_if, k_call, k_print, k_create, k_remove, k_try, k_test, k_none, k_arm, k_goal, arms, row, kind_of, word, record_count}
use Rattle.language.specs.Program.{Step, step}
use Rattle.chains.specs.Layout.{all_rows, starts_kind, arms_kind}
use Rattle.chains.specs.Formed.{Formed, Stands, stands_starts, goal_at}
use Rattle.chains.specs.Shapes.{goal_kind, kind_number, switch_here, if_here, try_here}
use Rattle.tables.specs.Filled.{GoalIsStep}

-- the kinds of steps
unfoldable pub is_step : ℕ → Bool
is_step k =
    in_list k (literal_kind ∷ sum_kind ∷ assign_kind ∷ construct_kind ∷ call_kind ∷ print_kind ∷ create_kind ∷ remove_kind ∷ test_kind ∷ [])

-- .. by number, for `grind`
pub step_tells : (k : ℕ)
    → ((is_step k ≡ true) × (((8 ≤ k) × (k ≤ 11)) ⊎ ((k ≡ 15) ⊎ (((17 ≤ k) × (k ≤ 19)) ⊎ (k ≡ 21)))))
    ⊎ ((is_step k ≡ false) × ((8 ≤ k → k ≤ 11 → ⊥) × ((k ≡ 15 → ⊥) × ((17 ≤ k → k ≤ 19 → ⊥) × (k ≡ 21 → ⊥)))))
unfolding is_step in_list ◌or◌
step_tells k = grind (arith, nat_tests)

-- ---- a step's kind
goal_some : {k : GoalKind} → k_goal k ≡ k_none → ⊥
goal_some e = let z : ◌≡◌ {A = ℕ} 0 1 = cc in omega arith

module _ {f : List ℕ} (i : ℕ) (F : Formed f) where
  kind_step : (g : Step) (k : GoalKind) → goal_at f i ≡ step g → word f i kind_word ≡ (row (k_goal k)).kind → is_step (word f i kind_word) ≡ true
  unfolding all_rows is_step in_list ◌or◌
  kind_step g k_literal v e = rw e refl
  kind_step g k_sum v e = rw e refl
  kind_step g k_assign v e = rw e refl
  kind_step g k_construct v e = rw e refl
  kind_step g k_switch v e = let n = (switch_here F refl e).goal in let z : ◌≡◌ {A = ℕ} 0 1 = cc in absurd (omega arith)
  kind_step g k_if v e = let n = (if_here F refl e).goal in let z : ◌≡◌ {A = ℕ} 0 1 = cc in absurd (omega arith)
  kind_step g k_call v e = rw e refl
  kind_step g k_print v e = rw e refl
  kind_step g k_create v e = rw e refl
  kind_step g k_remove v e = rw e refl
  kind_step g k_try v e = let n = (try_here F refl e).goal in let z : ◌≡◌ {A = ℕ} 0 1 = cc in absurd (omega arith)
  kind_step g k_test v e = rw e refl

  pub step_kind : (g : Step) → GoalIsStep f i g → is_step (word f i kind_word) ≡ true
  step_kind g s = let k = goal_kind s.stands s.some in kind_step g k.0 s.view (kind_number (word f i kind_word) (k_goal k.0) k.1 goal_some)

-- ---- an arm's kind
pub arm_some : k_arm ≡ k_none → ⊥
arm_some e = let z : ◌≡◌ {A = ℕ} 0 1 = cc in omega arith

module _ (f : List ℕ) (i : ℕ) where
  pub arm_kind_law : Stands f arms i → (i ≡ 0 → ⊥) → kind_of (word f i kind_word) ≡ k_arm
  arm_kind_law s z = arms_kind (starts_kind (word f) (record_count f) i arms (omega arith) (stands_starts s)).1
