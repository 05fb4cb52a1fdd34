-- What is carried, part by part.
use Rattle.std.specs.Prelude.{ℕ, Bool, List, ◌≡◌}
use Rattle.sets.specs.declared.Set.{Set}
use Rattle.liveness.specs.declared.carried.Carried.{Carried}

pub record Carries (c : Carried) (w : List ℕ) (live : Set) (place : ℕ) (classes : Bool) : Type 0 where
  pub live_is : c.live ≡ live
  pub place_is : c.place ≡ place
  pub classes_is : c.classes ≡ classes
  pub wants_is : c.wants ≡ w
