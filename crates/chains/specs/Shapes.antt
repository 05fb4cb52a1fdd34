-- Records by the number of their kind, for code that reads words: what the record is, what stands there and where its words lead.
-- A contract says `IsSwitch f i`; code that has read the kind into w and tested it has `w ≡ word f i kind_word` and `w ≡ switch_kind`.
use Rattle.std.specs.Prelude.{ℕ, ◌+◌, ◌≡◌, List, ◌⊎◌}
use Rattle.std.proofs.Common.{arith, sym, ap, ◌∙◌, inl, inr}
use Rattle.std.proofs.Math.Path.{refl}
use Rattle.language.specs.Format
use Rattle.language.specs.Format.{kind_word, next_word, variable_kind, literal_kind, sum_kind, assign_kind, construct_kind, switch_kind, if_kind, call_kind, print_kind, create_kind, remove_kind, try_kind, test_kind, argument_variable, arm_goals, assign_y, call_arguments, call_procedure, goal_x, if_else, if_then, if_y, if_z, lifetime_region, literal_value, print_y, sum_operation, sum_y, sum_z, switch_arms, term_arguments, term_functor, test_y, test_z, try_condition, try_else, try_then}
use Rattle.language.specs.File.{GoalKind, k_literal, k_sum, k_assign, k_construct, k_switch, k_if, k_call, k_print, k_create, k_remove, k_try, k_test, Kind, k_none, k_variable, k_goal, procedures, variables, regions, edges, goals, arms, arguments, row, kind_of, word, record_count}
use Rattle.language.specs.Program.{Step, ◌then◌, Goal, step}
use Rattle.layout.specs.Table.{all_rows, number_is, number_kind}
use Rattle.layout.specs.Chains.{starts_kind, variables_kind, goals_kind}
use Rattle.records.specs.Records.{record_as, record_at}
use Rattle.chains.specs.Formed.{Formed, Stands, stands_starts, Onward, goals_at}
use Rattle.chains.specs.Kinds.{same_read}
use Rattle.chains.specs.Declared.{ProcedureAt, VariableAt, RegionAt, EdgeAt, procedure_at_law, variable_at_law, region_at_law, edge_at}
use Rattle.chains.specs.Goals.{LiteralAt, SumAt, AssignAt, ConstructAt, PrintAt, CreateAt, RemoveAt, TestAt, literal_at, sum_at_law, assign_at, construct_at, print_at, create_at, remove_at, test_at}
use Rattle.chains.specs.Parts.{SwitchAt, IfAt, TryAt, CallAt, ArmAt, ArgumentAt, switch_at, if_at, try_at, call_at, arm_at, argument_at}
use Rattle.chains.specs.Is.{procedure_is, variable_is, region_is, edge_is, arm_is, argument_is}

-- ---- record i is of this kind
module _ (f : List ℕ) (i : ℕ) where
  abbrev pub IsLiteral : Type 0
  IsLiteral = word f i kind_word ≡ literal_kind

  abbrev pub IsSum : Type 0
  IsSum = word f i kind_word ≡ sum_kind

  abbrev pub IsAssign : Type 0
  IsAssign = word f i kind_word ≡ assign_kind

  abbrev pub IsConstruct : Type 0
  IsConstruct = word f i kind_word ≡ construct_kind

  abbrev pub IsSwitch : Type 0
  IsSwitch = word f i kind_word ≡ switch_kind

  abbrev pub IsIf : Type 0
  IsIf = word f i kind_word ≡ if_kind

  abbrev pub IsCall : Type 0
  IsCall = word f i kind_word ≡ call_kind

  abbrev pub IsPrint : Type 0
  IsPrint = word f i kind_word ≡ print_kind

  abbrev pub IsCreate : Type 0
  IsCreate = word f i kind_word ≡ create_kind

  abbrev pub IsRemove : Type 0
  IsRemove = word f i kind_word ≡ remove_kind

  abbrev pub IsTry : Type 0
  IsTry = word f i kind_word ≡ try_kind

  abbrev pub IsTest : Type 0
  IsTest = word f i kind_word ≡ test_kind

-- ---- a kind and its number
pub kind_number : (w : ℕ) (k : Kind) → kind_of w ≡ k → (k ≡ k_none → ⊥) → w ≡ (row k).kind
kind_number w k e n = go (number_kind w)
  where
    go : (kind_of w ≡ k_none) ⊎ (w ≡ (row (kind_of w)).kind) → w ≡ (row k).kind
    go (inl z) = absurd (n (sym e ∙ z))
    go (inr z) = z ∙ ap (λ l. (row l).kind) e

goal_some : (g : GoalKind) → k_goal g ≡ k_none → ⊥
goal_some g e = let z : ◌≡◌ {A = ℕ} 0 1 = cc in omega arith

pub goal_number : (w : ℕ) (g : GoalKind) → kind_of w ≡ k_goal g → w ≡ (row (k_goal g)).kind
goal_number w g e = kind_number w (k_goal g) e (goal_some g)

pub variable_number : {f : List ℕ} {i : ℕ} → Stands f variables i → (i ≡ 0 → ⊥) → word f i kind_word ≡ variable_kind
unfolding all_rows
variable_number {f} {i} s z =
    kind_number (word f i kind_word) k_variable (variables_kind (starts_kind (word f) (record_count f) i variables (omega arith) (stands_starts s)).1)
    λ e. let q : ◌≡◌ {A = ℕ} 0 1 = cc in omega arith

-- the record that a number stands for
pub by_number : (f : List ℕ) (i : ℕ) {w : ℕ} (k : Kind) → w ≡ word f i kind_word → w ≡ (row k).kind → record_at f i ≡ record_as k (word f i)
by_number f i k e n = same_read f i refl (number_is k (word f i kind_word) (sym e ∙ n))

-- ---- what stands at a record of each kind
module _ {f : List ℕ} {i : ℕ} (F : Formed f) {w : ℕ} (e : w ≡ word f i kind_word) where
  pub literal_here : w ≡ literal_kind → LiteralAt f i (word f i next_word) (word f i goal_x) (word f i literal_value)
  unfolding all_rows
  literal_here k = literal_at F refl (by_number f i (k_goal k_literal) e k)

  pub sum_here : w ≡ sum_kind → SumAt f i (word f i next_word) (word f i goal_x) (word f i sum_operation) (word f i sum_y) (word f i sum_z)
  unfolding all_rows
  sum_here k = sum_at_law F refl (by_number f i (k_goal k_sum) e k)

  pub assign_here : w ≡ assign_kind → AssignAt f i (word f i next_word) (word f i goal_x) (word f i assign_y)
  unfolding all_rows
  assign_here k = assign_at F refl (by_number f i (k_goal k_assign) e k)

  pub construct_here : w ≡ construct_kind
      → ConstructAt f i (word f i next_word) (word f i goal_x) (word f i term_functor) (word f i term_arguments)
      (word f i (term_arguments + 1)) (word f i (term_arguments + 2)) (word f i (term_arguments + 3))
  unfolding all_rows
  construct_here k = construct_at F refl (by_number f i (k_goal k_construct) e k)

  pub switch_here : w ≡ switch_kind → SwitchAt f i (word f i next_word) (word f i goal_x) (word f i switch_arms)
  unfolding all_rows
  switch_here k = switch_at F refl (by_number f i (k_goal k_switch) e k)

  pub if_here : w ≡ if_kind → IfAt f i (word f i next_word) (word f i if_y) (word f i if_z) (word f i if_then) (word f i if_else)
  unfolding all_rows
  if_here k = if_at F refl (by_number f i (k_goal k_if) e k)

  pub call_here : w ≡ call_kind → CallAt f i (word f i next_word) (word f i call_procedure) (word f i call_arguments)
  unfolding all_rows
  call_here k = call_at F refl (by_number f i (k_goal k_call) e k)

  pub print_here : w ≡ print_kind → PrintAt f i (word f i next_word) (word f i print_y)
  unfolding all_rows
  print_here k = print_at F refl (by_number f i (k_goal k_print) e k)

  pub create_here : w ≡ create_kind → CreateAt f i (word f i next_word) (word f i lifetime_region)
  unfolding all_rows
  create_here k = create_at F refl (by_number f i (k_goal k_create) e k)

  pub remove_here : w ≡ remove_kind → RemoveAt f i (word f i next_word) (word f i lifetime_region)
  unfolding all_rows
  remove_here k = remove_at F refl (by_number f i (k_goal k_remove) e k)

  pub try_here : w ≡ try_kind → TryAt f i (word f i next_word) (word f i try_condition) (word f i try_then) (word f i try_else)
  unfolding all_rows
  try_here k = try_at F refl (by_number f i (k_goal k_try) e k)

  pub test_here : w ≡ test_kind → TestAt f i (word f i next_word) (word f i test_y) (word f i test_z)
  unfolding all_rows
  test_here k = test_at F refl (by_number f i (k_goal k_test) e k)

-- ---- what stands at a record of each kind of declaration
module _ {f : List ℕ} {i : ℕ} (F : Formed f) (z : i ≡ 0 → ⊥) where
  pub procedure_here : Stands f procedures i
      → ProcedureAt f i (word f i next_word) (word f i Format.procedure_variables) (word f i Format.procedure_regions) (word f i Format.procedure_goals)
  procedure_here s = procedure_at_law F refl (procedure_is s z)

  pub variable_here : Stands f variables i
      → VariableAt f i (word f i next_word) (word f i Format.variable_mode) (word f i Format.variable_type) (word f i Format.variable_region)
  variable_here s = variable_at_law F refl (variable_is s z)

  pub region_here : Stands f regions i
      → RegionAt f i (word f i next_word) (word f i Format.region_type) (word f i Format.region_class) (word f i Format.region_edges)
  region_here s = region_at_law F refl (region_is s z)

  pub edge_here : Stands f edges i → EdgeAt f i (word f i next_word) (word f i Format.edge_functor) (word f i Format.edge_position) (word f i Format.edge_target)
  edge_here s = edge_at F refl (edge_is s z)

-- ---- where the words of a switch, an if, a try and a call lead
module _ {f : List ℕ} {i : ℕ} (F : Formed f) {w : ℕ} where
  pub to_arms : IsSwitch f i → w ≡ word f i Format.switch_arms → Onward f arms i w
  to_arms k e = rw e (switch_here F refl k).to_arms

  pub to_then : IsIf f i → w ≡ word f i Format.if_then → Onward f goals i w
  to_then k e = rw e (if_here F refl k).to_then

  pub to_else : IsIf f i → w ≡ word f i Format.if_else → Onward f goals i w
  to_else k e = rw e (if_here F refl k).to_else

  pub to_condition : IsTry f i → w ≡ word f i Format.try_condition → Onward f goals i w
  to_condition k e = rw e (try_here F refl k).to_condition

  pub to_try_then : IsTry f i → w ≡ word f i Format.try_then → Onward f goals i w
  to_try_then k e = rw e (try_here F refl k).to_then

  pub to_try_else : IsTry f i → w ≡ word f i Format.try_else → Onward f goals i w
  to_try_else k e = rw e (try_here F refl k).to_else

  pub to_arguments : IsCall f i → w ≡ word f i Format.call_arguments → Onward f arguments i w
  to_arguments k e = rw e (call_here F refl k).to_arguments

-- ---- an arm, an argument
module _ {f : List ℕ} {i : ℕ} (F : Formed f) (z : i ≡ 0 → ⊥) where
  pub arm_here : Stands f arms i
      → ArmAt f i (word f i next_word) (word f i arm_goals) (word f i term_functor) (word f i term_arguments)
      (word f i (term_arguments + 1)) (word f i (term_arguments + 2)) (word f i (term_arguments + 3))
  arm_here s = arm_at F refl (arm_is s z)

  pub arm_goals_law : {w : ℕ} → Stands f arms i → w ≡ word f i Format.arm_goals → Onward f goals i w
  arm_goals_law s e = rw e (arm_here s).to_goals

  pub arm_next : {w : ℕ} → Stands f arms i → w ≡ word f i next_word → Onward f arms i w
  arm_next s e = rw e (arm_here s).to_next

  pub argument_here : Stands f arguments i → ArgumentAt f i (word f i next_word) (word f i argument_variable)
  argument_here s = argument_at F refl (argument_is s z)

-- ---- any goal: its kind is one of the twelve
pub record GoalAt (f : List ℕ) (i : ℕ) : Type 0 where
  pub goal : Goal
  pub view : goals_at f i ≡ goal then goals_at f (word f i next_word)
  pub to_next : Onward f goals i (word f i next_word)

-- neither a switch, nor an if, nor a try
pub record StepAt (f : List ℕ) (i : ℕ) : Type 0 where
  pub one : Step
  pub view : goals_at f i ≡ step one then goals_at f (word f i next_word)

module _ {f : List ℕ} {i : ℕ} (s : Stands f goals i) (z : i ≡ 0 → ⊥) where
  pub goal_kind : (g : GoalKind) × (kind_of (word f i kind_word) ≡ k_goal g)
  goal_kind = goals_kind (starts_kind (word f) (record_count f) i goals (omega arith) (stands_starts s)).1

module _ {u w : ℕ} (e : w ≡ u) where
  not_kind : (g : GoalKind) → kind_of u ≡ k_goal g → (w ≡ (row (k_goal g)).kind → ⊥) → ⊥
  not_kind g k n = n (e ∙ goal_number u g k)

  none_left : (g : GoalKind) → kind_of u ≡ k_goal g → (w ≡ literal_kind → ⊥) → (w ≡ sum_kind → ⊥) → (w ≡ assign_kind → ⊥) → (w ≡ construct_kind → ⊥)
      → (w ≡ switch_kind → ⊥) → (w ≡ if_kind → ⊥) → (w ≡ call_kind → ⊥) → (w ≡ print_kind → ⊥) → (w ≡ create_kind → ⊥) → (w ≡ remove_kind → ⊥) → (w ≡ try_kind → ⊥) → (w ≡ test_kind → ⊥) → ⊥
  unfolding all_rows
  none_left k_literal k n8 n9 n10 n11 n12 n14 n15 n17 n18 n19 n20 n21 = not_kind k_literal k n8
  none_left k_sum k n8 n9 n10 n11 n12 n14 n15 n17 n18 n19 n20 n21 = not_kind k_sum k n9
  none_left k_assign k n8 n9 n10 n11 n12 n14 n15 n17 n18 n19 n20 n21 = not_kind k_assign k n10
  none_left k_construct k n8 n9 n10 n11 n12 n14 n15 n17 n18 n19 n20 n21 = not_kind k_construct k n11
  none_left k_switch k n8 n9 n10 n11 n12 n14 n15 n17 n18 n19 n20 n21 = not_kind k_switch k n12
  none_left k_if k n8 n9 n10 n11 n12 n14 n15 n17 n18 n19 n20 n21 = not_kind k_if k n14
  none_left k_call k n8 n9 n10 n11 n12 n14 n15 n17 n18 n19 n20 n21 = not_kind k_call k n15
  none_left k_print k n8 n9 n10 n11 n12 n14 n15 n17 n18 n19 n20 n21 = not_kind k_print k n17
  none_left k_create k n8 n9 n10 n11 n12 n14 n15 n17 n18 n19 n20 n21 = not_kind k_create k n18
  none_left k_remove k n8 n9 n10 n11 n12 n14 n15 n17 n18 n19 n20 n21 = not_kind k_remove k n19
  none_left k_try k n8 n9 n10 n11 n12 n14 n15 n17 n18 n19 n20 n21 = not_kind k_try k n20
  none_left k_test k n8 n9 n10 n11 n12 n14 n15 n17 n18 n19 n20 n21 = not_kind k_test k n21

-- code that has tested the twelve kinds has no other case left
pub no_goal_left : {f : List ℕ} {i w : ℕ} → Stands f goals i → (i ≡ 0 → ⊥) → w ≡ word f i kind_word → (w ≡ literal_kind → ⊥) → (w ≡ sum_kind → ⊥) → (w ≡ assign_kind → ⊥) → (w ≡ construct_kind → ⊥)
    → (w ≡ switch_kind → ⊥) → (w ≡ if_kind → ⊥) → (w ≡ call_kind → ⊥) → (w ≡ print_kind → ⊥) → (w ≡ create_kind → ⊥) → (w ≡ remove_kind → ⊥) → (w ≡ try_kind → ⊥) → (w ≡ test_kind → ⊥) → ⊥
no_goal_left s z e = let g = goal_kind s z in none_left e g.0 g.1

module _ {f : List ℕ} {i : ℕ} (F : Formed f) where
  goal_of_law : (g : GoalKind) → kind_of (word f i kind_word) ≡ k_goal g → GoalAt f i
  goal_of_law k_literal k = let h = literal_at F refl (same_read f i refl k) in record { goal = _; view = h.view; to_next = h.to_next }
  goal_of_law k_sum k = let h = sum_at_law F refl (same_read f i refl k) in record { goal = _; view = h.view; to_next = h.to_next }
  goal_of_law k_assign k = let h = assign_at F refl (same_read f i refl k) in record { goal = _; view = h.view; to_next = h.to_next }
  goal_of_law k_construct k = let h = construct_at F refl (same_read f i refl k) in record { goal = _; view = h.view; to_next = h.to_next }
  goal_of_law k_switch k = let h = switch_at F refl (same_read f i refl k) in record { goal = _; view = h.view; to_next = h.to_next }
  goal_of_law k_if k = let h = if_at F refl (same_read f i refl k) in record { goal = _; view = h.view; to_next = h.to_next }
  goal_of_law k_call k = let h = call_at F refl (same_read f i refl k) in record { goal = _; view = h.view; to_next = h.to_next }
  goal_of_law k_print k = let h = print_at F refl (same_read f i refl k) in record { goal = _; view = h.view; to_next = h.to_next }
  goal_of_law k_create k = let h = create_at F refl (same_read f i refl k) in record { goal = _; view = h.view; to_next = h.to_next }
  goal_of_law k_remove k = let h = remove_at F refl (same_read f i refl k) in record { goal = _; view = h.view; to_next = h.to_next }
  goal_of_law k_try k = let h = try_at F refl (same_read f i refl k) in record { goal = _; view = h.view; to_next = h.to_next }
  goal_of_law k_test k = let h = test_at F refl (same_read f i refl k) in record { goal = _; view = h.view; to_next = h.to_next }

  step_of : (g : GoalKind) → kind_of (word f i kind_word) ≡ k_goal g → (IsSwitch f i → ⊥) → (IsIf f i → ⊥) → (IsTry f i → ⊥) → StepAt f i
  unfolding all_rows
  step_of k_literal k p q t = record { one = _; view = (literal_at F refl (same_read f i refl k)).view }
  step_of k_sum k p q t = record { one = _; view = (sum_at_law F refl (same_read f i refl k)).view }
  step_of k_assign k p q t = record { one = _; view = (assign_at F refl (same_read f i refl k)).view }
  step_of k_construct k p q t = record { one = _; view = (construct_at F refl (same_read f i refl k)).view }
  step_of k_switch k p q t = absurd (p (goal_number (word f i kind_word) k_switch k))
  step_of k_if k p q t = absurd (q (goal_number (word f i kind_word) k_if k))
  step_of k_call k p q t = record { one = _; view = (call_at F refl (same_read f i refl k)).view }
  step_of k_print k p q t = record { one = _; view = (print_at F refl (same_read f i refl k)).view }
  step_of k_create k p q t = record { one = _; view = (create_at F refl (same_read f i refl k)).view }
  step_of k_remove k p q t = record { one = _; view = (remove_at F refl (same_read f i refl k)).view }
  step_of k_try k p q t = absurd (t (goal_number (word f i kind_word) k_try k))
  step_of k_test k p q t = record { one = _; view = (test_at F refl (same_read f i refl k)).view }

  module _ (s : Stands f goals i) (z : i ≡ 0 → ⊥) where
    pub goal_here : GoalAt f i
    goal_here = let g = goal_kind s z in goal_of_law g.0 g.1

    pub step_here : {w : ℕ} → w ≡ word f i kind_word → (w ≡ switch_kind → ⊥) → (w ≡ if_kind → ⊥) → (w ≡ try_kind → ⊥) → StepAt f i
    step_here e p q t = let g = goal_kind s z in step_of g.0 g.1 (λ k. p (e ∙ k)) (λ k. q (e ∙ k)) λ k. t (e ∙ k)
