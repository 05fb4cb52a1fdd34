-- What a job held, to be read without a proof: a line for the entry's frame, then one for each step that changes how many cells, regions or frames are
-- held, with how many of each are held then and the record of the goal that the step carried out; at last how the run ended.
use Rattle.std.specs.Prelude.{ℕ, suc, ◌≡◌, List, [], ◌∷◌, ◌++◌, length}
use Rattle.language.specs.Program.{Goals, ◌then◌}
use Rattle.language.specs.AcceptedRun.{RegionFrame, State, steps}
use Rattle.language.specs.Machine.{Lent, cells_held, regions_held, counted}
use Rattle.language.specs.Answers.{program, ran}
use Rattle.language.specs.Output.{decimal, line, ending_line}
use Rattle.chains.specs.Formed.{goal_at}
use Rattle.profiling.specs.declared.Held.{Held}
use Rattle.profiling.specs.declared.Line.{Line}

-- how many of each a state holds: document 01's counts. In an open condition what it removed "count[s] as held" (C-20)
unfoldable pub held_in : State → Held
held_in s = record { cells = cells_held (counted s).alive (counted s).cells; regions = regions_held (counted s); frames = length s.frames }

-- .. the accepted file's run after n steps
unfoldable pub held_after : List ℕ → ℕ → Held
held_after f n = held_in (steps (program f) n)

-- record i is that of the goal which the run carries out after n steps: the newest frame's next goal is the one read there; in an open condition, the
-- condition's next
pub record CarriesOut (f : List ℕ) (n i : ℕ) : Type 0 where
  pub newest : RegionFrame
  pub waiting : List RegionFrame
  pub rest : Goals
  pub frames : (steps (program f) n).frames ≡ newest ∷ waiting
  pub goals : newest.frame.goals ≡ goal_at f i then rest

-- ---- lines: the step, what is held after it, and the record of its goal
-- "The entry's frame before the first step is a line with step 0 and record 0"
unfoldable pub entry_line : List ℕ → Line
entry_line f = record { step = 0; held = held_after f 0; goal = 0 }

-- the lines of the steps behind n up to k: a step has one exactly if what is held after it is not what was held before it
pub data Lines (f : List ℕ) (n : ℕ) : ℕ → List Line → Type 0 where
  none : Lines f n n []
  same : {k : ℕ} {ls : List Line} → Lines f n k ls → held_after f (suc k) ≡ held_after f k → Lines f n (suc k) ls
  more : {k i : ℕ} {ls : List Line} → Lines f n k ls → (held_after f (suc k) ≡ held_after f k → ⊥) → CarriesOut f k i
      → Lines f n (suc k) (ls ++ (record { step = suc k; held = held_after f (suc k); goal = i } ∷ []))

-- ---- what is written: "STEP CELLS REGIONS FRAMES RECORD"
unfoldable pub spaced : ℕ → List ℕ
spaced n = decimal n ++ (32 ∷ [])

unfoldable pub line_text : Line → List ℕ
line_text l = spaced l.step ++ (spaced l.held.cells ++ (spaced l.held.regions ++ (spaced l.held.frames ++ line (decimal l.goal))))

unfoldable pub text_of : List Line → List ℕ
text_of [] = []
text_of (l ∷ ls) = line_text l ++ text_of ls

-- the whole, for an accepted file whose entry has a frame in the lent memory
pub record Profile (f : List ℕ) (lent : Lent) (text : List ℕ) : Type 0 where
  pub lines : List Line
  pub every : Lines f 0 (ran f lent).steps lines
  pub written : text ≡ text_of (entry_line f ∷ lines) ++ ending_line (ran f lent).ending (ran f lent).steps
