-- What the plain run sees of a state of the accepted file's run, and that each goal does to it what the plain run does: a plain goal
-- the same, a create or a remove nothing.
use Rattle.std.specs.Prelude.{◌≡◌, Bool, ℕ, ℤ, length}
use Rattle.std.proofs.Math.Path.{refl, ap}
use Rattle.std.proofs.Common.{◌∙◌}
use Rattle.std.proofs.Math.Bool.{true, false}
use mathlib.Core.List.{List, ◌∷◌, map, map-append, []}
use Rattle.std.proofs.lemmas.List.{length-map}
use Rattle.language.specs.Lists.{choose}
use Rattle.language.specs.Program.{arguments_of, Step, literal, sum, assign, construct, call, print, create, remove, test, Goals, done, ◌then◌, Goal, step, switch, if_less, try, Arms, ◌before◌, Program}
use Rattle.language.specs.Annotation.{plain_step}
use Rattle.language.specs.Frames.{Value, Frame, Condition, closed, opened, ahead, Cell, less_in, with_goals, giving, literal_in, sum_of, sum_in, assign_in, cell_for, built_value, build_in, branch_in, Picked, no_arm, picked, pick, enter_arm, open_cell, callee_frame, returning, entry_frame, settle}
use Rattle.language.specs.PlainRun.{strip_goals, strip_arms, stripped, PlainState, whole_frame, plain_state, plain_within, plain_state_in, plain_start, plain_failed, plain_take, built_cells}
use Rattle.language.specs.AcceptedRun.{RegionFrame, Memory, State, cell_of, with_cell, with_built, with_printed, with_region, without_region, restored, with_frame, whole, callee_regions, returning_regions, state, within, state_in, start, failed, take}
use Rattle.laws.specs.Choices.{choose_map}
use Rattle.lockstep.specs.Counted.{is_plain}
use Rattle.laws.specs.Goals.{strip_before, strip_signature, strip_body}
use Rattle.lockstep.proofs.Strip.{stripped_goal, strip_picked, strip_pick}

-- a frame without its regions, and with its goals stripped of creates and removes
unfoldable pub erase_frame : RegionFrame → Frame
erase_frame f = with_goals f.frame (strip_goals f.frame.goals)

-- what the plain run makes (t) of a newest frame, the frames that wait and the memory
abbrev pub seen : (Frame → List Frame → List Cell → List ℤ → PlainState) → RegionFrame → List RegionFrame → Memory → PlainState
seen t f fs m = t (erase_frame f) (map erase_frame fs) (map cell_of m.cells) m.printed

-- what the plain run sees of an open condition: what is saved, and the goals that follow it (C-20)
unfoldable pub erase_condition : Condition RegionFrame Memory → Condition Frame (List Cell)
erase_condition closed = closed
erase_condition (opened a e n) = opened (strip_goals a) (erase_frame e) (map cell_of n.cells)

-- `plain_state_in` settles again: a condition or a newest frame with nothing but creates and removes left has gone in the plain run
unfoldable pub erase_frames : Program → Condition RegionFrame Memory → List RegionFrame → Memory → PlainState
erase_frames P c [] m = record { frames = []; cells = map cell_of m.cells; printed = m.printed; condition = closed }
erase_frames P c (f ∷ fs) m = seen (plain_state_in (stripped P) (erase_condition c)) f fs m

-- what the plain run sees of a state
unfoldable pub erase : Program → State → PlainState
erase P s = erase_frames P s.condition s.frames s.memory

strip_ahead : (c : Condition RegionFrame Memory) (gs : Goals) → strip_goals (ahead c gs) ≡ ahead (erase_condition c) (strip_goals gs)
unfolding ahead erase_condition
strip_ahead closed gs = refl
strip_ahead (opened a e n) gs = strip_before gs a

strip_part : (c : Condition RegionFrame Memory) (gs hs : Goals)
    → strip_goals (gs before ahead c hs) ≡ strip_goals gs before ahead (erase_condition c) (strip_goals hs)
strip_part c gs hs = strip_before gs (ahead c hs) ∙ ap (λ (ks : Goals). strip_goals gs before ks) (strip_ahead c hs)

module _ (P : Program) where
  -- ---- frames that come and go
  erase_callee : (f : RegionFrame) (q : ℕ) (ys : List ℕ) → erase_frame (callee_regions P f q ys) ≡ callee_frame (stripped P) (erase_frame f) q ys
  unfolding erase_frame with_goals callee_regions callee_frame
  erase_callee f q ys = rw (strip_signature P q, strip_body P q)

  erase_returning : (f g : RegionFrame) → erase_frame (returning_regions P f g) ≡ returning (stripped P) (erase_frame f) (erase_frame g)
  unfolding erase_frame with_goals returning_regions returning
  erase_returning f g = rw (strip_signature P f.frame.procedure)

  erase_entry : (stands : ℕ → ℕ) → erase_frame (record { frame = entry_frame P; stands = stands }) ≡ entry_frame (stripped P)
  unfolding erase_frame with_goals entry_frame
  erase_entry stands = rw (strip_body P 0)

  -- ---- frames that settle: settling after stripping takes in settling before it
  abbrev settled : List RegionFrame → RegionFrame → Goals → List Frame
  settled fs f gs = settle (λ e. e.goals) (returning (stripped P)) (map erase_frame fs) (erase_frame f) (strip_goals gs)

  erase_settle : (m : Memory) (fs : List RegionFrame) (f : RegionFrame) (gs : Goals) → f.frame.goals ≡ gs →
      erase_frames P closed (settle (λ e. e.frame.goals) (returning_regions P) fs f gs) m
      ≡ record { frames = settled fs f gs; cells = map cell_of m.cells; printed = m.printed; condition = closed }
  unfolding settle erase_frames erase_condition plain_state_in plain_within plain_state erase_frame with_goals strip_goals returning_regions returning
  erase_settle m [] f done e = refl
  erase_settle m [] f (g then gs) e = rw e
  erase_settle m (h ∷ fs) f done e = erase_settle m fs (returning_regions P f h) h.frame.goals refl ∙ rw (erase_returning f h)
  erase_settle m (h ∷ fs) f (g then gs) e = rw e

  erase_state : (f : RegionFrame) (fs : List RegionFrame) (m : Memory) → erase P (state P f fs m) ≡ seen (plain_state (stripped P)) f fs m
  unfolding erase state plain_state erase_frame with_goals
  erase_state f fs m = erase_settle m fs f f.frame.goals refl

  -- .. in a condition: with nothing but creates and removes left there, the plain run has come to what follows it
  erase_within : (c : Condition RegionFrame Memory) (gs : Goals) (f : RegionFrame) (fs : List RegionFrame) (m : Memory) → f.frame.goals ≡ gs →
      erase P (within P c gs f fs m) ≡ seen (plain_state_in (stripped P) (erase_condition c)) f fs m
  unfolding erase erase_frames erase_condition within plain_state_in plain_within erase_frame with_frame with_goals strip_goals
  erase_within closed gs f fs m e = erase_state f fs m
  erase_within (opened a x n) done f fs m e = erase_state _ fs m ∙ rw e
  erase_within (opened a x n) (g then gs) f fs m e = refl

  erase_in : (c : Condition RegionFrame Memory) (f : RegionFrame) (fs : List RegionFrame) (m : Memory) →
      erase P (state_in P c f fs m) ≡ seen (plain_state_in (stripped P) (erase_condition c)) f fs m
  unfolding state_in
  erase_in c f fs m = erase_within c f.frame.goals f fs m refl

  -- a failing test goes back in both runs
  erase_failed : (c : Condition RegionFrame Memory) (f : RegionFrame) (fs : List RegionFrame) (m : Memory) →
      erase P (failed P c f fs m) ≡ seen (plain_failed (stripped P) (erase_condition c)) f fs m
  unfolding failed plain_failed erase_condition restored
  erase_failed closed f fs m = erase_state f fs m
  erase_failed (opened a e n) f fs m = erase_state e fs _

  erase_whole : (c : Condition RegionFrame Memory) (f : RegionFrame) → erase_frame (whole c f) ≡ whole_frame (erase_condition c) (erase_frame f)
  unfolding erase_frame whole whole_frame with_frame with_goals
  erase_whole c f = rw (strip_ahead c)

  pub erase_start : erase P (start P) ≡ plain_start (stripped P)
  unfolding start plain_start
  erase_start = erase_state _ _ _ ∙ rw (erase_entry (λ r. 0))

  -- ---- what goals with parts do to a frame
  erase_branch : (f : RegionFrame) (y z : ℕ) (gs hs : Goals) →
      erase_frame (with_frame f (branch_in f.frame y z gs hs)) ≡ branch_in (erase_frame f) y z (strip_goals gs) (strip_goals hs)
  unfolding erase_frame with_frame with_goals branch_in less_in
  erase_branch f y z gs hs = rw (strip_before, choose_map strip_goals)

  erase_arm : (p : Picked) (vs : List Value) (f : RegionFrame) →
      erase_frame (with_frame f (enter_arm p vs f.frame)) ≡ enter_arm (strip_picked p) vs (erase_frame f)
  unfolding erase_frame with_frame with_goals enter_arm strip_picked
  erase_arm no_arm vs f = refl
  erase_arm (picked ys gs) vs f = rw strip_before

  erase_open : (c : Cell) (cs : Arms) (f : RegionFrame) →
      erase_frame (with_frame f (open_cell c cs f.frame)) ≡ open_cell c (strip_arms cs) (erase_frame f)
  unfolding open_cell
  erase_open c cs f = erase_arm (pick cs c.functor) c.contents f ∙ rw strip_pick

  -- ---- one goal: a plain one does the same in both runs, a create or a remove changes nothing that the plain run sees
  abbrev pub Same : Bool → Condition RegionFrame Memory → Goal → RegionFrame → List RegionFrame → Memory → Type 0
  Same true c g f fs m = erase P (take P c g f fs m) ≡ seen (plain_take (stripped P) (erase_condition c) (stripped_goal g)) f fs m
  Same false c g f fs m = erase P (take P c g f fs m) ≡ seen (plain_state_in (stripped P) (erase_condition c)) f fs m

  -- a construct makes no cell in either run, or one in both
  erase_built : (c : Condition RegionFrame Memory) (x k r : ℕ) (ys : List ℕ) (f : RegionFrame) (fs : List RegionFrame) (m : Memory) →
      seen (plain_state_in (stripped P) (erase_condition c)) (with_frame f (build_in f.frame x k ys (length m.cells))) fs (with_built m r f.frame k ys)
      ≡ seen (λ e es cells. plain_state_in (stripped P) (erase_condition c) (build_in e x k ys (length cells)) es (built_cells cells e k ys)) f fs m
  unfolding with_built built_cells build_in built_value erase_frame with_frame with_goals giving cell_for cell_of with_cell
  erase_built c x k r [] f fs m = refl
  erase_built c x k r (y ∷ ys) f fs m = rw (length-map, map-append)

  -- a test goes on in both runs, or fails in both
  erase_test : (c : Condition RegionFrame Memory) (b : Bool) (f : RegionFrame) (fs : List RegionFrame) (m : Memory) →
      erase P (choose b (state_in P c f fs m) (failed P c f fs m))
      ≡ choose b (seen (plain_state_in (stripped P) (erase_condition c)) f fs m) (seen (plain_failed (stripped P) (erase_condition c)) f fs m)
  unfolding choose
  erase_test c true f fs m = erase_in c f fs m
  erase_test c false f fs m = erase_failed c f fs m

  erase_step : (c : Condition RegionFrame Memory) (g : Step) (f : RegionFrame) (fs : List RegionFrame) (m : Memory) → Same (plain_step g) c (step g) f fs m
  unfolding plain_step stripped_goal take plain_take erase_frame with_frame with_goals giving literal_in sum_of sum_in assign_in less_in with_printed with_region without_region
  erase_step c (literal x v) f fs m = erase_in c _ fs m
  erase_step c (sum x o y z) f fs m = erase_in c _ fs m
  erase_step c (assign x y) f fs m = erase_in c _ fs m
  erase_step c (construct x k ys) f fs m = erase_in c _ fs _ ∙ erase_built c x k _ (arguments_of ys) f fs m
  erase_step c (call q ys) f fs m = erase_state _ (whole c f ∷ fs) m ∙ rw (erase_callee f q ys, erase_whole c f)
  erase_step c (print y) f fs m = erase_in c f fs _
  erase_step c (create r) f fs m = erase_in c _ fs _
  erase_step c (remove r) f fs m = erase_in c f fs _
  erase_step c (test y z) f fs m = erase_test c _ f fs m

  pub erase_take : (c : Condition RegionFrame Memory) (g : Goal) (f : RegionFrame) (fs : List RegionFrame) (m : Memory) → Same (is_plain g) c g f fs m
  unfolding is_plain stripped_goal take plain_take erase_condition erase_frame with_frame with_goals
  erase_take c (step g) f fs m = erase_step c g f fs m
  erase_take c (switch x cs) f fs m =
      erase_in c _ fs m
      ∙ ap (λ e. plain_state_in (stripped P) (erase_condition c) e (map erase_frame fs) (map cell_of m.cells) m.printed) (erase_open _ cs f)
  erase_take c (if_less y z gs hs) f fs m = erase_in c _ fs m ∙ rw (erase_branch f y z gs hs)
  erase_take c (try t a b) f fs m = erase_in _ _ fs m ∙ rw (strip_part c a, strip_part c b)
