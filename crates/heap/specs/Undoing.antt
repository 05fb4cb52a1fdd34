-- What is made stands in the memory's own count.
use Rattle.std.specs.Prelude.{◌≡◌, true, ℕ, ◌≤◌}
use Rattle.language.specs.Lists.{all}
use Rattle.language.specs.AcceptedRun.{Memory}
use Rattle.heap.specs.Counts.{within}

pub record Closed (M : Memory) : Type 0 where
  pub low : (r : ℕ) → M.alive r ≡ true → r ≤ M.made
  pub made : all (within M.made) M.cells ≡ true
