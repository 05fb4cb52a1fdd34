-- What was gathered of a record fits it: of a step what it reads and gives, of an arm that it gives its arguments.
use Rattle.std.specs.Prelude.{ℕ, ◌+◌, ◌≤◌, ◌<◌, ◌≡◌, List, [], length, get_or, drop}
use Rattle.std.proofs.Common.{sym, ◌∙◌, get_or-drop}
use Rattle.language.specs.File.{goals, arms}
use Rattle.language.specs.Program.{arguments_of, Step, Goals, ◌then◌, step}
use Rattle.language.specs.Answers.{program}
use Rattle.chains.specs.Formed.{Stands, goals_at}
use Rattle.tables.specs.Window.{FileTable}
use Rattle.chains.specs.Parts.{four_at}
use Rattle.tables.specs.declared.Access.{Access}
use Rattle.accesses.specs.Gathering.{Gathers}
use Rattle.accesses.specs.Accesses.{Accesses}

-- the arguments of the arm at record i
unfoldable pub arm_arguments : List ℕ → ℕ → List ℕ
arm_arguments f i = arguments_of (four_at f i)

-- of the step at record i, whichever it is
abbrev pub Stepped : List ℕ → ℕ → Access → Type 0
Stepped f i a = (g : Step) (gs : Goals) → goals_at f i ≡ step g then gs → Accesses (program f) g a

pub record AccessFits (f : List ℕ) (i : ℕ) (a : Access) : Type 0 where
  pub step : Stands f goals i → (i ≡ 0 → ⊥) → Stepped f i a
  pub arm : Stands f arms i → (i ≡ 0 → ⊥) → Gathers a [] (arm_arguments f i)

-- ---- a call: the callee's in and out variables stand in its window
-- the window of procedure q, which starts at that place
module _ {f t : List ℕ} (T : FileTable f t) {q w : ℕ} (h : q < length (program f).procedures) (e : w ≡ get_or t q 0) where
  pub in_window : {n : ℕ} (k : ℕ) → n ≡ get_or t (w + k) 0 → n ≡ get_or (drop (get_or t q 0) t) k 0
  in_window k g = g ∙ rw e (sym (get_or-drop (get_or t q 0) t k 0))

  pub window_fits : w ≤ length t
  window_fits = rw e (T.starts q h)
