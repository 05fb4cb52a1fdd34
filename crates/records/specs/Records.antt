-- The decoded record: document 01's table, by kind, and what a decoded record says of the file. Assumes nothing.
use Rattle.std.specs.Prelude.{ℕ, ◌+◌, ◌≡◌, refl, List}
use Rattle.std.proofs.Math.Path.{sym, ap}
use Rattle.std.proofs.Common.{◌∙◌}
use Rattle.language.specs.File.{word, kind_of, Kind, k_none, k_header, k_type, k_functor, k_procedure, k_variable, k_region, k_edge, k_arm, k_argument, k_goal, k_literal, k_sum, k_assign, k_construct, k_switch, k_if, k_call, k_print, k_create, k_remove, k_try, k_test}
use Rattle.language.specs.Format.{argument_variable, arm_goals, assign_y, call_arguments, call_procedure, edge_functor, edge_position, edge_target, functor_arity, functor_types, goal_x, header_count, header_procedures, header_types, if_else, if_then, if_y, if_z, kind_word, lifetime_region, literal_value, next_word, print_y, procedure_goals, procedure_regions, procedure_variables, region_class, region_edges, region_type, sum_operation, sum_y, sum_z, switch_arms, term_arguments, term_functor, test_y, test_z, try_condition, try_else, try_then, type_functors, variable_mode, variable_region, variable_type}
use Rattle.records.specs.declared.Record.{Record}
use Rattle.records.specs.declared.Record.TheVariants.{Header, «Type» as TypeOf, Functor, Procedure, Variable, Region, Edge, Literal, Sum, Assign, Construct, Switch, Arm, If, Call, Argument, Print, Create, Remove, Try, Test, Other}

-- a record of a kind, by its words
abbrev pub record_as : Kind → (ℕ → ℕ) → Record
record_as k_none w = Other
record_as k_header w = Header (w header_procedures) (w header_types) (w header_count)
record_as k_type w = TypeOf (w next_word) (w type_functors)
record_as k_functor w = Functor (w next_word) (w functor_arity) (w functor_types) (w (functor_types + 1)) (w (functor_types + 2)) (w (functor_types + 3))
record_as k_procedure w = Procedure (w next_word) (w procedure_variables) (w procedure_regions) (w procedure_goals)
record_as k_variable w = Variable (w next_word) (w variable_mode) (w variable_type) (w variable_region)
record_as k_region w = Region (w next_word) (w region_type) (w region_class) (w region_edges)
record_as k_edge w = Edge (w next_word) (w edge_functor) (w edge_position) (w edge_target)
record_as (k_goal k_literal) w = Literal (w next_word) (w goal_x) (w literal_value)
record_as (k_goal k_sum) w = Sum (w next_word) (w goal_x) (w sum_operation) (w sum_y) (w sum_z)
record_as (k_goal k_assign) w = Assign (w next_word) (w goal_x) (w assign_y)
record_as (k_goal k_construct) w =
    Construct (w next_word) (w goal_x) (w term_functor) (w term_arguments) (w (term_arguments + 1)) (w (term_arguments + 2)) (w (term_arguments + 3))
record_as (k_goal k_switch) w = Switch (w next_word) (w goal_x) (w switch_arms)
record_as k_arm w = Arm (w next_word) (w arm_goals) (w term_functor) (w term_arguments) (w (term_arguments + 1)) (w (term_arguments + 2)) (w (term_arguments + 3))
record_as (k_goal k_if) w = If (w next_word) (w if_y) (w if_z) (w if_then) (w if_else)
record_as (k_goal k_call) w = Call (w next_word) (w call_procedure) (w call_arguments)
record_as k_argument w = Argument (w next_word) (w argument_variable)
record_as (k_goal k_print) w = Print (w next_word) (w print_y)
record_as (k_goal k_create) w = Create (w next_word) (w lifetime_region)
record_as (k_goal k_remove) w = Remove (w next_word) (w lifetime_region)
record_as (k_goal k_try) w = Try (w next_word) (w try_condition) (w try_then) (w try_else)
record_as (k_goal k_test) w = Test (w next_word) (w test_y) (w test_z)

-- record i of a file
unfoldable pub record_at : List ℕ → ℕ → Record
record_at f i = record_as (kind_of (word f i kind_word)) (word f i)

-- ---- what a decoded record says of the file
-- the kind of a decoded record
abbrev pub kind_in : Record → Kind
kind_in (Header w1 w2 w3) = k_header
kind_in (TypeOf w1 w2) = k_type
kind_in (Functor w1 w2 w3 w4 w5 w6) = k_functor
kind_in (Procedure w1 w2 w3 w4) = k_procedure
kind_in (Variable w1 w2 w3 w4) = k_variable
kind_in (Region w1 w2 w3 w4) = k_region
kind_in (Edge w1 w2 w3 w4) = k_edge
kind_in (Literal w1 w2 w3) = k_goal k_literal
kind_in (Sum w1 w2 w3 w4 w5) = k_goal k_sum
kind_in (Assign w1 w2 w3) = k_goal k_assign
kind_in (Construct w1 w2 w3 w4 w5 w6 w7) = k_goal k_construct
kind_in (Switch w1 w2 w3) = k_goal k_switch
kind_in (Arm w1 w2 w3 w4 w5 w6 w7) = k_arm
kind_in (If w1 w2 w3 w4 w5) = k_goal k_if
kind_in (Call w1 w2 w3) = k_goal k_call
kind_in (Argument w1 w2) = k_argument
kind_in (Print w1 w2) = k_goal k_print
kind_in (Create w1 w2) = k_goal k_create
kind_in (Remove w1 w2) = k_goal k_remove
kind_in (Try w1 w2 w3 w4) = k_goal k_try
kind_in (Test w1 w2 w3) = k_goal k_test
kind_in Other = k_none

kind_as : (k : Kind) (w : ℕ → ℕ) → kind_in (record_as k w) ≡ k
kind_as k_none w = refl
kind_as k_header w = refl
kind_as k_type w = refl
kind_as k_functor w = refl
kind_as k_procedure w = refl
kind_as k_variable w = refl
kind_as k_region w = refl
kind_as k_edge w = refl
kind_as (k_goal k_literal) w = refl
kind_as (k_goal k_sum) w = refl
kind_as (k_goal k_assign) w = refl
kind_as (k_goal k_construct) w = refl
kind_as (k_goal k_switch) w = refl
kind_as k_arm w = refl
kind_as (k_goal k_if) w = refl
kind_as (k_goal k_call) w = refl
kind_as k_argument w = refl
kind_as (k_goal k_print) w = refl
kind_as (k_goal k_create) w = refl
kind_as (k_goal k_remove) w = refl
kind_as (k_goal k_try) w = refl
kind_as (k_goal k_test) w = refl

module _ (f : List ℕ) (i : ℕ) where
  -- from the kind to the record
  pub record_as_law : {k : Kind} → kind_of (word f i kind_word) ≡ k → record_at f i ≡ record_as k (word f i)
  unfolding record_at
  record_as_law e = ap (λ k. record_as k (word f i)) e

  -- from the record to the kind
  pub record_kind : {r : Record} → r ≡ record_at f i → kind_of (word f i kind_word) ≡ kind_in r
  unfolding record_at
  record_kind e = sym (ap kind_in e ∙ kind_as (kind_of (word f i kind_word)) (word f i))
