-- Demand 3, to be checked against the user's words without reading a proof: what holds of every file that the checker accepts, and of whatever
-- the annotator writes.
use Rattle.std.specs.Prelude.{ℕ, suc, ◌+◌, ◌-◌, ◌≤◌, true, false, List, [], ◌∷◌, map, ◌↔◌, ◌≡◌, Ok}
use Rattle.language.specs.Program.{test, Goals, ◌then◌, Goal, step}
use Rattle.language.specs.Frames.{less_in, with_goals, fits, stays_at_sum}
use Rattle.language.specs.PlainRun.{stripped, plain_steps}
use Rattle.language.specs.AcceptedRun.{RegionFrame, frame_of, with_frame, allowed, take, steps}
use Rattle.language.specs.Answers.{program, checked, annotated, writes}
use Rattle.lockstep.specs.Counted.{spent}
use Rattle.lockstep.proofs.Erase.{erase_frame}
use Rattle.safety.specs.Since.{GoneBack}

-- "For demand 3 a create or removal that a failing test undoes has not happened, though its step stays spent on it" (C-20): a failing test goes on
-- with the memory saved before the condition (`undone`), so `safe` and `clean` speak of regions that were created and removed for good or in the
-- condition that is open; and what was spent stays so (`still_spent`).
-- The accepted file's run is `steps (program f)`, the plain run `plain_steps (stripped (program f))`; a run has ended once it has no frame. It is at a sum
-- out of range if the newest frame's next goal is one (`stays_at_sum`); it stays there and has not ended (C-15).
pub record Sound (f : List ℕ) : Type 0 where
  -- "after any number of steps at any call depth: builds, reads and removes only in regions created and not yet removed": the run never stays
  -- at a goal for a region, and no region is removed twice
  pub safe : (n : ℕ) (e : RegionFrame) (es : List RegionFrame) (g : Goal) (gs : Goals)
      → (steps (program f) n).frames ≡ e ∷ es → e.frame.goals ≡ (g then gs) → allowed (program f) g e (steps (program f) n).memory ≡ true
  -- so it stays only at a sum out of range: any other goal is taken
  pub taken : (n : ℕ) (e : RegionFrame) (es : List RegionFrame) (g : Goal) (gs : Goals)
      → (steps (program f) n).frames ≡ e ∷ es → e.frame.goals ≡ (g then gs) → fits g e.frame ≡ true
      → steps (program f) (suc n) ≡ take (program f) (steps (program f) n).condition g (with_frame e (with_goals e.frame gs)) es (steps (program f) n).memory
  -- "all are removed once the entry has returned"
  pub clean : (n : ℕ) → (steps (program f) n).frames ≡ [] → (k : ℕ) → (steps (program f) n).memory.alive k ≡ false
  -- "When a test fails, the else part begins with variables, regions and cells exactly as before the condition" (C-20): the run came to the try some steps
  -- before, and goes on with the frame and the memory that it had there (`GoneBack`)
  pub undone : (n : ℕ) (e : RegionFrame) (es : List RegionFrame) (y z : ℕ) (gs : Goals)
      → (steps (program f) n).frames ≡ e ∷ es → e.frame.goals ≡ (step (test y z) then gs) → less_in e.frame y z ≡ false → GoneBack (program f) n es
  -- ".. though its step stays spent on it" (C-20): what a failing test undoes is not taken off again, nor is anything else
  pub still_spent : (n k : ℕ) → n ≤ k → spent (program f) n ≤ spent (program f) k
  -- "the numbers printed are those of the plain run .. after as many steps less those spent on creates and removes": up to a sum out of range, and there
  pub prints : (n : ℕ) → (steps (program f) n).memory.printed ≡ (plain_steps (stripped (program f)) (n - spent (program f) n)).printed
  -- "each number of plain steps comes up"
  pub each : (k : ℕ) → (n : ℕ) × (n - spent (program f) n ≡ k)
  -- "both end or neither"
  pub both : ((n : ℕ) × ((steps (program f) n).frames ≡ [])) ↔ ((k : ℕ) × ((plain_steps (stripped (program f)) k).frames ≡ []))
  -- .. and when: once the run has ended after n steps, the plain run has after n less those spent;
  pub ended : (n : ℕ) → (steps (program f) n).frames ≡ [] → (plain_steps (stripped (program f)) (n - spent (program f) n)).frames ≡ []
  -- once the plain run has ended there, the run ends after creates and removes alone
  pub plain_ended : (n : ℕ) → (plain_steps (stripped (program f)) (n - spent (program f) n)).frames ≡ []
      → (m : ℕ) × (m - spent (program f) m ≡ n - spent (program f) n) × ((steps (program f) m).frames ≡ [])
  -- "Both runs of demand 3 stay at that goal, not ended" (C-15): one run comes to a sum out of range if and only if the other does,
  pub both_stay : ((n : ℕ) × (stays_at_sum (map frame_of (steps (program f) n).frames) ≡ true))
      ↔ ((k : ℕ) × (stays_at_sum (plain_steps (stripped (program f)) k).frames ≡ true))
  -- .. at the same one: where the run is at one after n steps, the plain run is after n less those spent, with the same frames, creates and removes struck out;
  pub same_sum : (n : ℕ) → stays_at_sum (map frame_of (steps (program f) n).frames) ≡ true
      → (stays_at_sum (plain_steps (stripped (program f)) (n - spent (program f) n)).frames ≡ true)
      × ((plain_steps (stripped (program f)) (n - spent (program f) n)).frames ≡ map erase_frame (steps (program f) n).frames)
  -- where the plain run is at one, the run comes to it after creates and removes alone;
  pub plain_sum : (n : ℕ) → stays_at_sum (plain_steps (stripped (program f)) (n - spent (program f) n)).frames ≡ true
      → (m : ℕ) × (m - spent (program f) m ≡ n - spent (program f) n) × (stays_at_sum (map frame_of (steps (program f) m).frames) ≡ true)
  -- and each stays there, however many steps it is given
  pub stays : (n k : ℕ) → stays_at_sum (map frame_of (steps (program f) n).frames) ≡ true → steps (program f) (n + k) ≡ steps (program f) n
  pub plain_stays : (n k : ℕ) → stays_at_sum (plain_steps (stripped (program f)) n).frames ≡ true
      → plain_steps (stripped (program f)) (n + k) ≡ plain_steps (stripped (program f)) n

-- "For every accepted file .."
abbrev pub Demand3 : Type 0
Demand3 = (f : List ℕ) → checked f ≡ Ok tt → Sound f

-- "Whatever the annotator writes, the checker accepts."
abbrev pub Written : Type 0
Written = (f : List ℕ) (lent : ℕ) (g : List ℕ) → annotated f lent ≡ writes g → checked g ≡ Ok tt
