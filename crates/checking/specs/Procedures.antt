-- Number 8 of a procedure, by its window.
use Rattle.std.specs.Prelude.{ℕ, Bool, List, ◌≡◌, get_or}
use Rattle.language.specs.Program.{procedure_at}
use Rattle.language.specs.Checking.{procedure_rules}
use Rattle.language.specs.Answers.{program}
use Rattle.chains.specs.Formed.{goals_at}
use Rattle.tables.specs.Window.{body_place}
use Rattle.tables.specs.Filled.{Belongs}
use Rattle.checking.specs.Ready.{Ready}

-- what `window_ok` answers
abbrev pub WindowChecked : List ℕ → List ℕ → List ℕ → Bool → Type 0
WindowChecked f rows own b =
    (o : ℕ → ℕ) (q : ℕ) → Ready f rows own o q → Belongs o q (get_or own body_place 0) → goals_at f (get_or own body_place 0) ≡ (procedure_at (program f) q).body
    → b ≡ procedure_rules (program f) (procedure_at (program f) q)
