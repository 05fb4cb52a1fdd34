-- What each function comes to on each way through it, where only its own proof asks.
use Prim.Native.Nat.{ℕ, ◌+◌, ◌*◌, ◌/◌, ◌≤◌, ◌<◌}
use Rattle.std.specs.Prelude.{Option, Some, None}
use native.Mathlib.Nat.{div-zero}
use native.Mathlib.Omega.{arith}
use mathlib.Core.Path.{◌≡◌, refl}
use mathlib.Core.List.{List}
use lib.ListN.{set}
use Rattle.language.specs.Machine.{holds}
use Rattle.memory.specs.declared.Pool.{Pool}
use Rattle.memory.specs.declared.Heap.{Heap}
use Rattle.memory.specs.Memory.{region_words, region_last, most, link, first, taken, created, created_of, created_regions, created_regions_of, built, built_of}

module _ (h : Heap) (rs : List ℕ) (l : ℕ) (e : l ≡ first rs h.regions.head) (t : Option (ℕ × Pool)) (d : t ≡ taken h.regions l) where
  pub create_full : t ≡ None → (None ≡ created h rs) × (rs ≡ created_regions h rs)
  unfolding created created_regions created_of created_regions_of
  create_full f = rw (← e, ← d, f) (refl, refl)

  pub create_made : (r : ℕ) (p : Pool) → t ≡ Some (r, p) → (rs₁ : List ℕ) → rs₁ ≡ set rs (region_words * r + region_last) h.cells.limit
      → (Some (r, record { cells = h.cells; regions = p }) ≡ created h rs) × (rs₁ ≡ created_regions h rs)
  unfolding created created_regions created_of created_regions_of
  create_made r p f rs₁ g = rw (g, ← e, ← d, f) (refl, refl)

module _ (h : Heap) (m : List ℕ) (l : ℕ) (e : l ≡ link m h.cells.head) (t : Option (ℕ × Pool)) (dt : t ≡ taken h.cells l) where
  pub cell_full : t ≡ None → None ≡ built h m
  unfolding built built_of
  cell_full g = rw (← e, ← dt, g)

  pub cell_made : (x : ℕ) (p : Pool) → t ≡ Some (x, p) → Some (x, record { cells = p; regions = h.regions }) ≡ built h m
  unfolding built built_of
  cell_made x p g = rw (← e, ← dt, g)

-- ---- room
pub room_none : (n k : ℕ) → k ≡ 0 → 0 ≡ holds n k
unfolding holds
room_none n k e = rw e (omega (arith, div-zero n))

pub room_all : (n k : ℕ) → n / k < most → n / k ≡ holds n k
unfolding holds
room_all n k l = omega arith

pub room_most : (n k : ℕ) → most ≤ n / k → most ≡ holds n k
unfolding holds
room_most n k l = omega arith
