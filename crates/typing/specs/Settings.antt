-- What the walk over a procedure's goals answers: number 3 of the goals at record i, of the goal there, of the arms there for the functors at record g,
-- with what the procedure's table declares.
use Rattle.std.specs.Prelude.{ℕ, ◌≡◌, Bool, List}
use Rattle.language.specs.File.{word}
use Rattle.language.specs.Answers.{program}
use Rattle.language.specs.Typing.{has_type, have_types, arguments_ok, goals_ok, goal_ok, arms_ok}
use Rattle.chains.specs.Parts.{four_at}
use Rattle.chains.specs.Formed.{goals_at, goal_at, arms_at, functors_at, variables_at, arguments_at}
use Rattle.declarations.specs.Functors.{functor_at_record}
use Rattle.declarations.specs.Parameters.{taken_types}
use Rattle.declarations.specs.Own.{declared}
use Rattle.typing.specs.Arguments.{slot_here, arm_fits}

module _ (f own : List ℕ) where
  abbrev pub GoalsTested : ℕ → Bool → Type 0
  GoalsTested i r = r ≡ goals_ok (program f) (declared f own) (goals_at f i)

  abbrev pub GoalTested : ℕ → Bool → Type 0
  GoalTested i r = r ≡ goal_ok (program f) (declared f own) (goal_at f i)

  -- record i's arguments for the functor of record g, one of them, and an arm for functor n
  abbrev pub ArgumentsTested : ℕ → ℕ → Bool → Type 0
  ArgumentsTested g i r = r ≡ arguments_ok (declared f own) (functor_at_record f g) (four_at f i)

  abbrev pub ArgumentTested : ℕ → ℕ → ℕ → Bool → Type 0
  ArgumentTested g k i r = r ≡ slot_here f (declared f own) g i k

  abbrev pub ArmTested : ℕ → ℕ → ℕ → Bool → Type 0
  ArmTested g n i r = r ≡ arm_fits f (declared f own) g n i

  -- word k of record i is a variable of type 0
  abbrev pub NumberTested : ℕ → ℕ → Bool → Type 0
  NumberTested i k r = r ≡ has_type (declared f own) 0 (word f i k)

  -- the arguments from record y on for the variables from record v on
  abbrev pub ArgumentsMatched : ℕ → ℕ → Bool → Type 0
  ArgumentsMatched v y r = r ≡ have_types (declared f own) (taken_types (variables_at f v)) (arguments_at f y)

  abbrev pub ArmsTested : ℕ → ℕ → Bool → Type 0
  ArmsTested i g r = r ≡ arms_ok (program f) (declared f own) (arms_at f i) (functors_at f g) 0
