-- A whole run: the steps that are done and those still to come make the whole.
use Rattle.std.specs.Prelude.{ℕ, ◌≡◌, List}
use Rattle.language.specs.Machine.{room_in}
use Rattle.language.specs.declared.Ending.{Ending}
use Rattle.memory.specs.declared.Heap.{Heap}
use Rattle.plans.specs.Plan.{callee_word, callee_body}
use Rattle.word_machine.specs.Tables.{Tables}
use Rattle.word_machine.specs.Machine.{Outcome, run_on, lent_words}
use Rattle.machine.specs.declared.State.{State}
use Rattle.machine.specs.declared.Outcome.{Outcome as Answer}
use Rattle.machine.specs.Words.{words_of}

-- What a run gives: its ending, its steps, how many numbers are printed, and every lent word afterwards.
pub record Ran (o : Outcome) (r : Answer) (m rs fw ps : List ℕ) : Type 0 where
  pub ending : r.ending ≡ o.ending
  pub steps : r.steps ≡ o.done
  pub printed : r.printed ≡ o.words.printed
  pub cells : m ≡ o.words.cells
  pub regions : rs ≡ o.words.regions
  pub frames : fw ≡ o.words.frames
  pub prints : ps ≡ o.words.prints

-- a run that ends at state s after n steps
unfoldable pub ended_at : Ending → ℕ → State → Answer
ended_at e n s = record { ending = e; steps = n; printed = s.printed }

-- what a run comes to from a first state on
unfoldable pub run_first : List ℕ → Tables → ℕ → Heap → List ℕ → List ℕ → List ℕ → List ℕ → State → Outcome
run_first f T l h m rs fw ps s = run_on f T (room_in (lent_words m rs fw ps l)) l s.goal 0 (words_of h m rs fw ps s)

-- ---- the start
abbrev pub entry_state : ℕ → State
entry_state goal = record { top = 0; at = 0; goal = goal; printed = 0 }

-- the entry's frame, at its first goal
unfoldable pub first_state : List ℕ → State
first_state callees = entry_state (callee_word callees 0 callee_body)
