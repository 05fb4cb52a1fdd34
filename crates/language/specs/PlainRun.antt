-- The plain run of demand 3: creates and removes struck out, nothing freed.
use Rattle.std.specs.Prelude.{ℕ, zero, suc, Bool, true, false, List, [], ◌∷◌, ◌++◌, map, ℤ, length}
use Rattle.language.specs.Lists.{choose}
use Rattle.language.specs.Program.{arguments_of, literal, sum, assign, construct, call, print, create, remove, test, Goals, done, ◌then◌, Goal, step, switch, if_less, try, ◌before◌, Arms, no_arms, arm, Procedure, Program}
use Rattle.language.specs.Annotation.{plain_step}
use Rattle.language.specs.Frames.{Frame, Condition, closed, opened, ahead, Cell, number_in, less_in, fits, with_goals, literal_in, sum_in, assign_in, cell_for, build_in, branch_in, cell_in, open_cell, callee_frame, returning, entry_frame, settle}

-- "The plain run is fed the program's goals without creates and removes."
unfoldable pub then_if : Bool → Goal → Goals → Goals
then_if true g gs = g then gs
then_if false g gs = gs

unfoldable mutual
  pub strip_goals : Goals → Goals
  strip_goals done = done
  strip_goals (g then gs) = strip_goal g (strip_goals gs)

  pub strip_goal : Goal → Goals → Goals
  strip_goal (step g) gs = then_if (plain_step g) (step g) gs
  strip_goal (switch x cs) gs = switch x (strip_arms cs) then gs
  strip_goal (if_less y z a b) gs = if_less y z (strip_goals a) (strip_goals b) then gs
  strip_goal (try c a b) gs = try (strip_goals c) (strip_goals a) (strip_goals b) then gs

  pub strip_arms : Arms → Arms
  strip_arms no_arms = no_arms
  strip_arms (arm f ys gs cs) = arm f ys (strip_goals gs) (strip_arms cs)

unfoldable pub strip_procedure : Procedure → Procedure
strip_procedure p = record { signature = p.signature; body = strip_goals p.body }

unfoldable pub stripped : Program → Program
stripped P = record { types = P.types; procedures = map strip_procedure P.procedures }

-- The plain run. "Its state: frames, cells, printed numbers", the newest frame first; "the run ends when the entry's goes"
pub record PlainState : Type 0 where
  pub frames : List Frame
  pub cells : List Cell
  pub printed : List ℤ
  pub condition : Condition Frame (List Cell)

-- a construct of frame f: "Constructing one makes no cell" (C-14)
unfoldable pub built_cells : List Cell → Frame → ℕ → List ℕ → List Cell
built_cells cells f k [] = cells
built_cells cells f k (y ∷ ys) = cells ++ (cell_for f k (y ∷ ys) ∷ [])

-- the newest frame with all its goals: those of the open condition and those that follow it
unfoldable pub whole_frame : Condition Frame (List Cell) → Frame → Frame
whole_frame c f = with_goals f (ahead c f.goals)

module _ (P : Program) where
  -- the state with newest frame f outside conditions, once frames that are done have gone
  unfoldable pub plain_state : Frame → List Frame → List Cell → List ℤ → PlainState
  plain_state f fs cells printed =
      record { frames = settle (λ e. e.goals) (returning P) fs f f.goals; cells = cells; printed = printed; condition = closed }

  -- .. in a condition, where gs are the goals of f: once they are done, those that follow the condition come (C-20)
  unfoldable pub plain_within : Condition Frame (List Cell) → Goals → Frame → List Frame → List Cell → List ℤ → PlainState
  plain_within closed gs f fs cells printed = plain_state f fs cells printed
  plain_within (opened a e old) done f fs cells printed = plain_state (with_goals f a) fs cells printed
  plain_within (opened a e old) (g then gs) f fs cells printed =
      record { frames = f ∷ fs; cells = cells; printed = printed; condition = opened a e old }

  unfoldable pub plain_state_in : Condition Frame (List Cell) → Frame → List Frame → List Cell → List ℤ → PlainState
  plain_state_in c f fs cells printed = plain_within c f.goals f fs cells printed

  -- "It starts with the entry's frame alone."
  unfoldable pub plain_start : PlainState
  plain_start = plain_state (entry_frame P) [] [] []

  -- a test fails; number 2 sees to it that a condition is open
  unfoldable pub plain_failed : Condition Frame (List Cell) → Frame → List Frame → List Cell → List ℤ → PlainState
  plain_failed closed f fs cells printed = plain_state f fs cells printed
  plain_failed (opened a e old) f fs cells printed = plain_state e fs old printed

  -- a goal of the newest frame f, which has the others still to do, in condition c. Number 2 sees to it that none is open at a call or a try; one
  -- would end there
  unfoldable pub plain_take : Condition Frame (List Cell) → Goal → Frame → List Frame → List Cell → List ℤ → PlainState
  plain_take c (step (literal x v)) f fs cells printed = plain_state_in c (literal_in f x v) fs cells printed
  plain_take c (step (sum x o y z)) f fs cells printed = plain_state_in c (sum_in f x o y z) fs cells printed
  plain_take c (step (assign x y)) f fs cells printed = plain_state_in c (assign_in f x y) fs cells printed
  plain_take c (step (construct x k ys)) f fs cells printed =
      plain_state_in c (build_in f x k (arguments_of ys) (length cells)) fs (built_cells cells f k (arguments_of ys)) printed
  plain_take c (step (call q ys)) f fs cells printed = plain_state (callee_frame P f q ys) (whole_frame c f ∷ fs) cells printed
  plain_take c (step (print y)) f fs cells printed = plain_state_in c f fs cells (printed ++ (number_in (f.values y) ∷ []))
  plain_take c (step (create r)) f fs cells printed = plain_state_in c f fs cells printed
  plain_take c (step (remove r)) f fs cells printed = plain_state_in c f fs cells printed
  plain_take c (step (test y z)) f fs cells printed =
      choose (less_in f y z) (plain_state_in c f fs cells printed) (plain_failed c f fs cells printed)
  plain_take c (switch x cs) f fs cells printed = plain_state_in c (open_cell (cell_in cells (f.values x)) cs f) fs cells printed
  plain_take c (if_less y z a b) f fs cells printed = plain_state_in c (branch_in f y z a b) fs cells printed
  plain_take c (try t a b) f fs cells printed =
      plain_state_in (opened (a before ahead c f.goals) (with_goals f (b before ahead c f.goals)) cells) (with_goals f t) fs cells printed

  -- "A step takes the newest frame's next goal"; at a sum out of range the run stays (C-15)
  unfoldable pub plain_next : Goals → Frame → List Frame → PlainState → PlainState
  plain_next done f fs s = s
  plain_next (g then gs) f fs s = choose (fits g f) (plain_take s.condition g (with_goals f gs) fs s.cells s.printed) s

  -- an ended run stays as it is
  unfoldable pub plain_from : List Frame → PlainState → PlainState
  plain_from [] s = s
  plain_from (f ∷ fs) s = plain_next f.goals f fs s

  unfoldable pub plain_step_of : PlainState → PlainState
  plain_step_of s = plain_from s.frames s

  -- the state after n steps of the plain run
  unfoldable pub plain_steps : ℕ → PlainState
  plain_steps zero = plain_start
  plain_steps (suc n) = plain_step_of (plain_steps n)
