-- A goal's own point was written, and the walk goes on in front of it.
use Rattle.std.specs.Prelude.{ℕ, Bool, List, [], ◌∷◌, ◌≡◌}
use Rattle.sets.specs.declared.Set.{Set}
use Rattle.liveness.specs.Points.{point}
use Rattle.liveness.specs.Table.{Fills}
use Rattle.liveness.specs.declared.carried.Carried.{Carried}

-- c is carried to d, the table t became u
pub record Noted (c : Carried) (t : List ℕ) (d : Carried) (u : List ℕ) (before after : Set) (classes : Bool) : Type 0 where
  pub live_is : d.live ≡ before
  pub classes_is : d.classes ≡ classes
  pub wants_is : d.wants ≡ c.wants
  pub fills : Fills t u d.place c.place (point before after ∷ [])
