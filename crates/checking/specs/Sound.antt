-- What says which variables are sound.
use Rattle.std.specs.Prelude.{ℕ, ◌≡◌, List}
use Rattle.language.specs.Program.{Signature}
use Rattle.language.specs.Regions.{reach}
use Rattle.tables.specs.Window.{reach_in}

-- the window has what each variable reaches
abbrev pub ReachesAll : Signature → List ℕ → Type 0
ReachesAll S t = (x : ℕ) → reach_in t x ≡ reach S x
