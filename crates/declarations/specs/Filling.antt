-- The functors of all types, as the table of the file has them.
use Rattle.std.specs.Prelude.{ℕ, ◌≤◌, ◌<◌, ◌≡◌, List, length, get_or}
use Rattle.language.specs.Format.{max_records}
use Rattle.language.specs.Lists.{nth}
use Rattle.chains.specs.Records.{chain_records}
use Rattle.declarations.specs.DeclaredPlaces.{functor_places, functor_in}
use Rattle.declarations.specs.Regioned.{regioned_start}
use Rattle.declarations.specs.Declares.{type_start}

pub record Functors (f t u : List ℕ) : Type 0 where
  pub kept : length u ≡ length t
  pub right : (ty m : ℕ) → functor_in u ty m ≡ nth 0 (chain_records f (type_start f ty)) m
  pub starts : (ty : ℕ) → get_or u (type_start f ty) 0 ≡ regioned_start f (type_start f ty)
  pub other : (k : ℕ) → max_records ≤ k → k < functor_places → get_or u k 0 ≡ get_or t k 0
