-- What an open condition has done stands in a log (C-20). Undone, the words stand for the memory of before; freed, for the memory without what was removed.
use Prim.Native.Nat.{ℕ, suc, ◌≤◌}
use Rattle.std.specs.Prelude.{◌≡◌, get_or}
use Rattle.std.proofs.Math.Bool.{true}
use mathlib.Core.List.{List}
use Rattle.language.specs.AcceptedRun.{RegionCell, Memory, with_cell, with_region, without_region}
use Rattle.language.specs.Machine.{Room}
use Rattle.memory.specs.Log.{built_in, made_at, removed_at, entry, Stored}
use Rattle.heap.specs.Represents.{Represents}
use Rattle.heap.specs.Undoing.{Closed}

-- the heap and words of s stand for memory M
abbrev pub Stands : Room → Stored → Memory → (ℕ → ℕ) → (ℕ → ℕ) → Type 0
Stands k s M ρ χ = Represents k s.heap s.cells s.regions M ρ χ

-- The first i entries of the log say what led from memory n to m. The words stand for M instead, which has what was removed. ρ has the places of regions
pub data Logged (ρ : ℕ → ℕ) (n : Memory) (log : List ℕ) : ℕ → Memory → Memory → Type 0 where
  none : Logged ρ n log 0 n n
  built : {i : ℕ} {M m : Memory} (c : RegionCell) → Logged ρ n log i M m → M.alive c.region ≡ true → c.region ≤ M.made
      → get_or log i 0 ≡ entry (ρ c.region) built_in → Logged ρ n log (suc i) (with_cell M c) (with_cell m c)
  made : {i : ℕ} {M m : Memory} → Logged ρ n log i M m → Closed M → get_or log i 0 ≡ entry (ρ (suc M.made)) made_at
      → Logged ρ n log (suc i) (with_region M) (with_region m)
  removed : {i : ℕ} {M m : Memory} (r : ℕ) → Logged ρ n log i M m → m.alive r ≡ true → r ≤ M.made → get_or log i 0 ≡ entry (ρ r) removed_at
      → Logged ρ n log (suc i) M (without_region m r)

-- ---- one entry
