-- What a record is, as the code's enums have it: "w0 is the kind".
use Rattle.std.specs.Prelude.{◌≡◌, ℕ, Option, MatchOption, Result, MatchResult}
use Rattle.language.specs.declared.kind.Goal.{Goal}
use Rattle.language.specs.declared.kind.Goal.TheVariants.{Literal, Sum, Assign, Construct, Switch, If, Call, Print, Create, Remove, Try, Test}
use Rattle.language.specs.declared.kind.Kind.{Kind}
use Rattle.language.specs.declared.kind.Kind.TheVariants.{Header, «Type», Functor, Procedure, Variable, Region, Edge, Arm, Argument, Goal as AGoal}
use Rattle.language.specs.declared.kind.NoKind.{NoKind}
use Rattle.language.specs.Format.{header_kind, type_kind, functor_kind, procedure_kind, variable_kind, region_kind, edge_kind, literal_kind, sum_kind, assign_kind, construct_kind, switch_kind, arm_kind, if_kind, call_kind, argument_kind, print_kind, create_kind, remove_kind, try_kind, test_kind}

-- their numbers
abbrev pub goal_number : Goal → ℕ
goal_number Literal = literal_kind
goal_number Sum = sum_kind
goal_number Assign = assign_kind
goal_number Construct = construct_kind
goal_number Switch = switch_kind
goal_number If = if_kind
goal_number Call = call_kind
goal_number Print = print_kind
goal_number Create = create_kind
goal_number Remove = remove_kind
goal_number Try = try_kind
goal_number Test = test_kind

abbrev pub number : Kind → ℕ
number Header = header_kind
number «Type» = type_kind
number Functor = functor_kind
number Procedure = procedure_kind
number Variable = variable_kind
number Region = region_kind
number Edge = edge_kind
number Arm = arm_kind
number Argument = argument_kind
number (AGoal g) = goal_number g

-- the kind of which n is the number, or that n is no kind's
abbrev pub IsNumbered : ℕ → Result Kind NoKind → Type 0
IsNumbered n r = MatchResult r (λ k. n ≡ number k) (λ _. (k : Kind) → n ≡ number k → ⊥)

-- the same where none stands for a number that is no kind's
abbrev pub KindOf : ℕ → Option Kind → Type 0
KindOf n r = MatchOption r ((k : Kind) → n ≡ number k → ⊥) (λ k. n ≡ number k)
