-- The accepted file's run of demand 3: the plain run with regions. Regions are numbered from 1 as they are made; 0 is none.
use Rattle.std.specs.Prelude.{ℕ, zero, suc, Bool, true, false, List, [], ◌∷◌, ◌++◌, map, ℤ, length}
use Rattle.sets.specs.Tests.{◌&◌, ◌or◌}
use Rattle.sets.specs.Members.{members}
use Rattle.language.specs.Lists.{nth, choose, put, is_none}
use Rattle.language.specs.Program.{arguments_of, literal, sum, assign, construct, call, print, create, remove, test, Goals, done, ◌then◌, Goal, step, switch, if_less, try, ◌before◌, Signature, Program, region_of, signature_of}
use Rattle.language.specs.Regions.{Mapping, mapping, image_in}
use Rattle.language.specs.Lifetimes.{born, start_held}
use Rattle.language.specs.Frames.{Value, numeral, cell_at, constant, Frame, Condition, closed, opened, ahead, Cell, number_in, less_in, fits, with_goals, literal_in, sum_in, assign_in, cell_for, build_in, branch_in, no_cell, cell_in, open_cell, callee_frame, returning, entry_frame, settle}

-- "A frame also says what region each region number stands for."
pub record RegionFrame : Type 0 where
  pub frame : Frame
  pub stands : ℕ → ℕ

-- "A construct's cell lies in the region of X"
pub record RegionCell : Type 0 where
  pub cell : Cell
  pub region : ℕ

-- what all frames share: the cells in the order they were made, how many regions were made, which are alive, the numbers printed
pub record Memory : Type 0 where
  pub cells : List RegionCell
  pub made : ℕ
  pub alive : ℕ → Bool  -- created and not removed
  pub printed : List ℤ

pub record State : Type 0 where
  pub frames : List RegionFrame
  pub memory : Memory
  pub condition : Condition RegionFrame Memory

unfoldable pub cell_of : RegionCell → Cell
cell_of c = c.cell

unfoldable pub frame_of : RegionFrame → Frame
frame_of f = f.frame

-- the region that cell c lies in
unfoldable pub lies_in : List RegionCell → ℕ → ℕ
lies_in cells c = (nth (record { cell = no_cell; region = 0 }) cells c).region

-- a cell is read in its region; a constant "is built and read in no region" (C-14); a number is nothing that a switch can read
unfoldable pub readable : Memory → Value → Bool
readable m (numeral z) = false
readable m (cell_at c) = m.alive (lies_in m.cells c)
readable m (constant k) = true

-- one cell more
unfoldable pub with_cell : Memory → RegionCell → Memory
with_cell m c = record { cells = m.cells ++ (c ∷ []); made = m.made; alive = m.alive; printed = m.printed }

-- a construct of frame f in region r: "Constructing one makes no cell" (C-14)
unfoldable pub with_built : Memory → ℕ → Frame → ℕ → List ℕ → Memory
with_built m r f k [] = m
with_built m r f k (y ∷ ys) = with_cell m (record { cell = cell_for f k (y ∷ ys); region = r })

-- one number more
unfoldable pub with_printed : Memory → ℤ → Memory
with_printed m z = record { cells = m.cells; made = m.made; alive = m.alive; printed = m.printed ++ (z ∷ []) }

-- "Create lets its number stand for a region never made before."
unfoldable pub with_region : Memory → Memory
with_region m = record { cells = m.cells; made = suc m.made; alive = put m.alive (suc m.made) true; printed = m.printed }

-- a remove: the region is alive no more
unfoldable pub without_region : Memory → ℕ → Memory
without_region m k = record { cells = m.cells; made = m.made; alive = put m.alive k false; printed = m.printed }

-- "exactly as before the condition" (C-20): the saved memory n in the place of m, so that a create or removal in the condition "has not
-- happened"; what was printed stays printed
unfoldable pub restored : Memory → Memory → Memory
restored n m = record { cells = n.cells; made = n.made; alive = n.alive; printed = m.printed }

-- for each r of a list, the number `name r` stands for what r stands for in `meant`
unfoldable pub stand_each : (ℕ → ℕ) → (ℕ → ℕ) → List ℕ → (ℕ → ℕ) → ℕ → ℕ
stand_each name meant [] stands = stands
stand_each name meant (r ∷ rs) stands = stand_each name meant rs (put stands (name r) (meant r))

unfoldable pub with_frame : RegionFrame → Frame → RegionFrame
with_frame f e = record { frame = e; stands = f.stands }

abbrev pub going : RegionFrame → Goals → RegionFrame
going f gs = with_frame f (with_goals f.frame gs)

-- the newest frame with all its goals: those of the open condition and those that follow it
unfoldable pub whole : Condition RegionFrame Memory → RegionFrame → RegionFrame
whole c f = going f (ahead c f.frame.goals)

-- "A callee's dead and kept numbers stand for what their images do"
unfoldable pub callee_stands : Mapping → Signature → (ℕ → ℕ) → ℕ → ℕ
callee_stands m Q stands = stand_each (λ r. r) (λ r. stands (image_in m r)) (members (start_held Q)) (λ r. 0)

-- "when its frame goes, the images of born ones stand for what those did"
unfoldable pub return_stands : Mapping → Signature → (ℕ → ℕ) → (ℕ → ℕ) → ℕ → ℕ
return_stands m Q meant stands = stand_each (image_in m) meant (members (born Q)) stands

module _ (P : Program) where
  -- the mapping of a call that the procedure of f makes
  unfoldable pub mapping_from : Frame → ℕ → List ℕ → Mapping
  mapping_from f q ys = mapping (signature_of P f.procedure) (signature_of P q) ys

  -- the callee's frame, and the caller's when the callee's goes
  unfoldable pub callee_regions : RegionFrame → ℕ → List ℕ → RegionFrame
  callee_regions f q ys =
      record { frame = callee_frame P f.frame q ys; stands = callee_stands (mapping_from f.frame q ys) (signature_of P q) f.stands }

  unfoldable pub returning_regions : RegionFrame → RegionFrame → RegionFrame
  returning_regions f g = record {
    frame = returning P f.frame g.frame;
    stands = return_stands (mapping_from g.frame f.frame.procedure f.frame.arguments) (signature_of P f.frame.procedure) f.stands g.stands;
  }

  -- the state with newest frame f outside conditions, once frames that are done have gone
  unfoldable pub state : RegionFrame → List RegionFrame → Memory → State
  state f fs m = record { frames = settle (λ e. e.frame.goals) returning_regions fs f f.frame.goals; memory = m; condition = closed }

  -- .. in a condition, where gs are the goals of f: once they are done, those that follow the condition come (C-20)
  unfoldable pub within : Condition RegionFrame Memory → Goals → RegionFrame → List RegionFrame → Memory → State
  within closed gs f fs m = state f fs m
  within (opened a e n) done f fs m = state (going f a) fs m
  within (opened a e n) (g then gs) f fs m = record { frames = f ∷ fs; memory = m; condition = opened a e n }

  unfoldable pub state_in : Condition RegionFrame Memory → RegionFrame → List RegionFrame → Memory → State
  state_in c f fs m = within c f.frame.goals f fs m

  -- the entry's frame alone, nothing made
  unfoldable pub start : State
  start = state (record { frame = entry_frame P; stands = λ r. 0 }) [] (record { cells = []; made = 0; alive = λ k. false; printed = [] })

  -- the region that X's region number stands for
  unfoldable pub region_for : RegionFrame → ℕ → ℕ
  region_for f x = f.stands (region_of (signature_of P f.frame.procedure) x)

  -- "A step that would build or read in a region never created or already removed, or remove such a one, is not taken"; a constant touches none
  unfoldable pub allowed : Goal → RegionFrame → Memory → Bool
  allowed (step (literal x v)) f m = true
  allowed (step (sum x o y z)) f m = true
  allowed (step (assign x y)) f m = true
  allowed (step (construct x k ys)) f m = is_none (arguments_of ys) or m.alive (region_for f x)
  allowed (step (call q ys)) f m = true
  allowed (step (print y)) f m = true
  allowed (step (create r)) f m = true
  allowed (step (remove r)) f m = m.alive (f.stands r)
  allowed (step (test y z)) f m = true
  allowed (switch x cs) f m = readable m (f.frame.values x)
  allowed (if_less y z a b) f m = true
  allowed (try c a b) f m = true

  -- a test fails: all is as before the condition. Number 2 sees to it that one is open
  unfoldable pub failed : Condition RegionFrame Memory → RegionFrame → List RegionFrame → Memory → State
  failed closed f fs m = state f fs m
  failed (opened a e n) f fs m = state e fs (restored n m)

  -- a goal of the newest frame f, which has the others still to do, in condition c. Number 2 sees to it that none is open at a call or a try; one
  -- would end there
  unfoldable pub take : Condition RegionFrame Memory → Goal → RegionFrame → List RegionFrame → Memory → State
  take c (step (literal x v)) f fs m = state_in c (with_frame f (literal_in f.frame x v)) fs m
  take c (step (sum x o y z)) f fs m = state_in c (with_frame f (sum_in f.frame x o y z)) fs m
  take c (step (assign x y)) f fs m = state_in c (with_frame f (assign_in f.frame x y)) fs m
  take c (step (construct x k ys)) f fs m =
      state_in c (with_frame f (build_in f.frame x k (arguments_of ys) (length m.cells))) fs
      (with_built m (region_for f x) f.frame k (arguments_of ys))
  take c (step (call q ys)) f fs m = state (callee_regions f q ys) (whole c f ∷ fs) m
  take c (step (print y)) f fs m = state_in c f fs (with_printed m (number_in (f.frame.values y)))
  take c (step (create r)) f fs m = state_in c (record { frame = f.frame; stands = put f.stands r (suc m.made) }) fs (with_region m)
  take c (step (remove r)) f fs m = state_in c f fs (without_region m (f.stands r))
  take c (step (test y z)) f fs m = choose (less_in f.frame y z) (state_in c f fs m) (failed c f fs m)
  take c (switch x cs) f fs m = state_in c (with_frame f (open_cell (cell_in (map cell_of m.cells) (f.frame.values x)) cs f.frame)) fs m
  take c (if_less y z a b) f fs m = state_in c (with_frame f (branch_in f.frame y z a b)) fs m
  take c (try t a b) f fs m =
      state_in (opened (a before ahead c f.frame.goals) (going f (b before ahead c f.frame.goals)) m) (going f t) fs m

  -- ".. is not taken: the run stays there and has not ended"; likewise at a sum out of range (C-15)
  unfoldable pub next : Goals → RegionFrame → List RegionFrame → State → State
  next done f fs s = s
  next (g then gs) f fs s = choose (fits g f.frame & allowed g f s.memory) (take s.condition g (going f gs) fs s.memory) s

  -- an ended run stays as it is
  unfoldable pub step_from : List RegionFrame → State → State
  step_from [] s = s
  step_from (f ∷ fs) s = next f.frame.goals f fs s

  unfoldable pub step_of : State → State
  step_of s = step_from s.frames s

  -- the state after n steps of the accepted file's run
  unfoldable pub steps : ℕ → State
  steps zero = start
  steps (suc n) = step_of (steps n)
