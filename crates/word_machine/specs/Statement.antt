-- The joining theorem, to be read without a proof: for every file that the checker accepts, with any tables of it and any lent words, the run in
-- words ends as the definition's does, after as many steps, with the same numbers printed; the words behind those are as they were.
use Rattle.std.specs.Prelude.{ℕ, ◌≡◌, List, Ok}
use Rattle.language.specs.Machine.{Run}
use Rattle.language.specs.Answers.{checked, ran}
use Rattle.word_machine.specs.Tables.{Tables, Tabled}
use Rattle.word_machine.specs.Machine.{Outcome, lent_words, word_run}
use Rattle.word_machine.specs.Printing.{Printed}

-- a run in words gives what a run of the definition does; qs are the words lent for printed numbers
pub record Gives (qs : List ℕ) (o : Outcome) (r : Run) : Type 0 where
  pub ending : o.ending ≡ r.ending
  pub steps : o.done ≡ r.steps
  pub printed : Printed qs o.words.prints o.words.printed r.printed

-- m, rs, fw and ps are the words lent for cells, regions, frames and printed numbers, l the steps
abbrev pub JoinedRuns : Type 0
JoinedRuns =
    (f : List ℕ) → checked f ≡ Ok tt → (T : Tables) → Tabled f T → (m rs fw ps : List ℕ) (l : ℕ)
    → Gives ps (word_run f T m rs fw ps l) (ran f (lent_words m rs fw ps l))
