-- A chain's records, listed in a part of a table.
use Rattle.std.specs.Prelude.{ℕ, ◌+◌, ◌≤◌, ◌<◌, ◌≡◌, List, ◌⊎◌, length, get_or}
use Rattle.language.specs.Lists.{nth}
use Rattle.chains.specs.Records.{chain_records}

-- u has the records of the chain at record start in the places from `at` on, and is as t elsewhere
pub record Lists (f : List ℕ) (start at : ℕ) (t u : List ℕ) : Type 0 where
  pub kept : length u ≡ length t
  pub here : (n : ℕ) → n < length (chain_records f start) → get_or u (at + n) 0 ≡ nth 0 (chain_records f start) n
  pub other : (k : ℕ) → (k < at) ⊎ (at + length (chain_records f start) ≤ k) → get_or u k 0 ≡ get_or t k 0
