-- First edges that were found: for each functor the chain that was searched last, and where its edges for the functor start.
use Rattle.std.specs.Prelude.{ℕ, ◌+◌, ◌*◌, ◌<◌, List, ◌≡◌, length, get_or}
use Rattle.language.specs.Format.{max_functors, places}
use Rattle.language.specs.File.{edges}
use Rattle.language.specs.Regions.{target_for}
use Rattle.chains.specs.Formed.{Stands, edges_at}

-- from record first on the chain at record start has for functor n what it has in all
pub record FirstEdge (f : List ℕ) (n start first : ℕ) : Type 0 where
  pub stands : Stands f edges first
  pub same : (k : ℕ) → target_for (edges_at f first) n k ≡ target_for (edges_at f start) n k

pub record Firsts (f m : List ℕ) : Type 0 where
  pub size : length m ≡ places
  pub right : (n : ℕ) → n < max_functors → FirstEdge f n (get_or m (2 * n) 0) (get_or m (2 * n + 1) 0)
