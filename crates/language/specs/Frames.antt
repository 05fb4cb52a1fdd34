-- "The two runs of demand 3": values, frames and cells, and what a goal does to a frame. Both runs share it.
use Rattle.std.specs.Prelude.{ℕ, Bool, true, false, List, [], ◌∷◌, map, eqb, ℤ, pos}
use Rattle.sets.specs.Tests.{neg}
use Rattle.language.specs.Lists.{nth, choose, put}
use Rattle.language.specs.Numbers.{literal_number, sum_number, in_range, less}
use Rattle.language.specs.Program.{arguments_of, Step, literal, sum, assign, construct, call, print, create, remove, test, Goals, done, ◌then◌, Goal, step, switch, if_less, try, Arms, no_arms, arm, ◌before◌, Program, procedure_at, signature_of, parameters_of, in_mode, out_mode, arguments_in, variables_in}

-- "a value in demand 3's runs being a number, a cell or a constant" (C-14): a constant is its functor
pub data Value : Type 0 where
  numeral : ℤ → Value
  cell_at : ℕ → Value
  constant : ℕ → Value

-- "A frame has the goals still to do and its variables' values": also its procedure and the arguments of the call that made it
pub record Frame : Type 0 where
  pub procedure : ℕ
  pub arguments : List ℕ
  pub goals : Goals
  pub values : ℕ → Value

-- "When a test fails, the else part begins with variables, regions and cells exactly as before the condition" (C-20). An open condition has
-- the goals that follow it, the then part and the rest, and what a failing test goes on with: the frame, at the else part, and the memory,
-- both as they were. "Conditions hold no call .. or try": only the newest frame has one, and one at most
pub data Condition (F M : Type 0) : Type 0 where
  closed : Condition F M
  opened : Goals → F → M → Condition F M

-- all goals still to do, where gs are those of the newest frame
unfoldable pub ahead : {F M : Type 0} → Condition F M → Goals → Goals
ahead closed gs = gs
ahead (opened a e n) gs = gs before a

-- "A cell has a functor and its arguments' values"
pub record Cell : Type 0 where
  pub functor : ℕ
  pub contents : List Value

-- the number that a value is; number 3 keeps cells and constants away from sums, ifs and prints
unfoldable pub number_in : Value → ℤ
number_in (numeral z) = z
number_in (cell_at c) = pos 0
number_in (constant k) = pos 0

-- variables get values in turn
unfoldable pub give_each : List ℕ → List Value → (ℕ → Value) → ℕ → Value
give_each [] vs values = values
give_each (x ∷ xs) [] values = values
give_each (x ∷ xs) (v ∷ vs) values = give_each xs vs (put values x v)

-- a frame with other goals still to do, or with one more value
unfoldable pub with_goals : Frame → Goals → Frame
with_goals f gs = record { procedure = f.procedure; arguments = f.arguments; goals = gs; values = f.values }

unfoldable pub giving : Frame → ℕ → Value → Frame
giving f x v = record { procedure = f.procedure; arguments = f.arguments; goals = f.goals; values = put f.values x v }

-- "Literal, sum and assign give X a value"
unfoldable pub literal_in : Frame → ℕ → ℕ → Frame
literal_in f x v = giving f x (numeral (literal_number v))

unfoldable pub sum_of : Frame → ℕ → ℕ → ℕ → ℤ
sum_of f o y z = sum_number o (number_in (f.values y)) (number_in (f.values z))

unfoldable pub sum_in : Frame → ℕ → ℕ → ℕ → ℕ → Frame
sum_in f x o y z = giving f x (numeral (sum_of f o y z))

unfoldable pub assign_in : Frame → ℕ → ℕ → Frame
assign_in f x y = giving f x (f.values y)

-- "a construct a new cell"
unfoldable pub cell_for : Frame → ℕ → List ℕ → Cell
cell_for f k ys = record { functor = k; contents = map f.values ys }

-- "Constructing one makes no cell" (C-14): X's value for functor k and arguments ys, n cells having been made before
unfoldable pub built_value : ℕ → List ℕ → ℕ → Value
built_value k [] n = constant k
built_value k (y ∷ ys) n = cell_at n

unfoldable pub build_in : Frame → ℕ → ℕ → List ℕ → ℕ → Frame
build_in f x k ys n = giving f x (built_value k ys n)

-- "A sum or difference outside .. now stops the run before that step" (C-15): the next goal of frame f is no sum out of range
unfoldable pub fits_step : Step → Frame → Bool
fits_step (literal x v) f = true
fits_step (sum x o y z) f = in_range (sum_of f o y z)
fits_step (assign x y) f = true
fits_step (construct x k ys) f = true
fits_step (call q ys) f = true
fits_step (print y) f = true
fits_step (create r) f = true
fits_step (remove r) f = true
fits_step (test y z) f = true

unfoldable pub fits : Goal → Frame → Bool
fits (step g) f = fits_step g f
fits (switch x cs) f = true
fits (if_less y z a b) f = true
fits (try c a b) f = true

-- "Both runs of demand 3 stay at that goal, not ended": the newest frame's next goal is a sum out of range
unfoldable pub over_ahead : Goals → Frame → Bool
over_ahead done f = false
over_ahead (g then gs) f = neg (fits g f)

unfoldable pub stays_at_sum : List Frame → Bool
stays_at_sum [] = false
stays_at_sum (f ∷ fs) = over_ahead f.goals f

-- Y < Z
unfoldable pub less_in : Frame → ℕ → ℕ → Bool
less_in f y z = less (number_in (f.values y)) (number_in (f.values z))

-- "that arm's goals, or those of an if's part, go before the rest"
unfoldable pub branch_in : Frame → ℕ → ℕ → Goals → Goals → Frame
branch_in f y z a b = with_goals f (choose (less_in f y z) a b before f.goals)

-- "A switch gives its arm's arguments the values in X's cell": the arm of a functor, if there is one
pub data Picked : Type 0 where
  no_arm : Picked
  picked : List ℕ → Goals → Picked

unfoldable pub pick : Arms → ℕ → Picked
pick no_arms k = no_arm
pick (arm f ys gs cs) k = choose (eqb f k) (picked (arguments_of ys) gs) (pick cs k)

-- number 3 sees to it that there is one
unfoldable pub enter_arm : Picked → List Value → Frame → Frame
enter_arm no_arm vs f = f
enter_arm (picked ys gs) vs f =
    record { procedure = f.procedure; arguments = f.arguments; goals = gs before f.goals; values = give_each ys vs f.values }

-- what stands where no cell is looked up
unfoldable pub no_cell : Cell
no_cell = record { functor = 0; contents = [] }

-- X's functor and its arguments' values, of X's cell or of the constant; a number has none
unfoldable pub cell_in : List Cell → Value → Cell
cell_in cells (numeral z) = no_cell
cell_in cells (cell_at c) = nth no_cell cells c
cell_in cells (constant k) = record { functor = k; contents = [] }

-- into the arm of X's cell
unfoldable pub open_cell : Cell → Arms → Frame → Frame
open_cell c cs f = enter_arm (pick cs c.functor) c.contents f

module _ (P : Program) where
  -- "A call adds the callee's frame with its in values."
  unfoldable pub callee_frame : Frame → ℕ → List ℕ → Frame
  callee_frame f q ys = record {
    procedure = q;
    arguments = ys;
    goals = (procedure_at P q).body;
    values = give_each (variables_in in_mode (signature_of P q)) (map f.values (arguments_in in_mode (parameters_of (signature_of P q)) ys)) (λ x. numeral (pos 0));
  }

  -- ".. and its out values pass to the call's arguments"
  unfoldable pub returning : Frame → Frame → Frame
  returning f g = record {
    procedure = g.procedure;
    arguments = g.arguments;
    goals = g.goals;
    values = give_each (arguments_in out_mode (parameters_of (signature_of P f.procedure)) f.arguments) (map f.values (variables_in out_mode (signature_of P f.procedure))) g.values;
  }

  -- "Procedure 0 is the entry."
  unfoldable pub entry_frame : Frame
  entry_frame = record { procedure = 0; arguments = []; goals = (procedure_at P 0).body; values = λ x. numeral (pos 0) }

-- "Whenever the newest frame has no goals left, it goes at once": f is the newest, gs are its goals, fs wait
module _ {F : Type 0} (goals_in : F → Goals) (into : F → F → F) where
  unfoldable pub settle : List F → F → Goals → List F
  settle [] f done = []
  settle [] f (g then gs) = f ∷ []
  settle (e ∷ fs) f done = settle fs (into f e) (goals_in e)
  settle (e ∷ fs) f (g then gs) = f ∷ e ∷ fs
