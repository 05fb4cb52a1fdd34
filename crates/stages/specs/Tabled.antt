-- What the stages leave in the file's table and in the rows, whatever they answer.
use Rattle.std.specs.Prelude.{ℕ, true, false, List, ◌⊎◌, ◌≡◌, Result, Err}
use Rattle.language.specs.declared.Refusal.{Refusal}
use Rattle.language.specs.declared.Refusal.TheVariants.{Values, Regions}
use Rattle.tables.specs.Window.{FileTable}
use Rattle.windows.specs.Listing.{OnlyWindows}
use Rattle.accesses.specs.Noting.{AllNoted, RowsKept}
use Rattle.regions.specs.Rowed.{AfterPass}

-- the rows u of the answer v, where number 4 leaves m: number 5 comes to them only where number 4 is passed, and fills them all where it is passed too
abbrev pub RowsOf : List ℕ → List ℕ → Result Unit Refusal → List ℕ → Type 0
RowsOf f m v u = ((v ≡ Err Values) × (u ≡ m)) ⊎ (((v ≡ Err Regions) × AfterPass f m false u) ⊎ AfterPass f m true u)

-- the table t and the rows u, where t₀ and u₀ stood: every window, what every step and arm reads and gives, and of effects as much as is said above.
-- All else is as it was.
pub record TablesAfter (f t₀ u₀ : List ℕ) (v : Result Unit Refusal) (t u : List ℕ) : Type 0 where
  pub windows : FileTable f t
  pub only : OnlyWindows f t₀ t
  pub between : List ℕ
  pub noted : AllNoted f between
  pub kept : RowsKept f u₀ between
  pub onward : RowsOf f between v u
