-- How many cells a region has, found by walking its chain once: as many as the definition says lie in it.
use Prim.Native.Nat.{ℕ, zero, suc, ◌+◌, ◌-◌, ◌≤◌, ◌<◌}
use native.Mathlib.Omega.{arith}
use Rattle.std.specs.Prelude.{◌≡◌, true, List, eqb, leb}
use Rattle.std.proofs.Common.{sym, ap, ◌∙◌, eq-eqb, ne_eqb, le-leb}
use Rattle.std.proofs.lemmas.Bool.{lt-leb}
use Rattle.language.specs.Lists.{choose}
use Rattle.language.specs.AcceptedRun.{Memory}
use Rattle.language.specs.Machine.{Room}
use Rattle.memory.specs.declared.Heap.{Heap}
use Rattle.memory.specs.Memory.{link, first, last}
use Rattle.heap.specs.Labels.{Labels, busy, busy_height}
use Rattle.heap.specs.Labelled.{Labelled, Ends, cell_low}
use Rattle.heap.specs.Counts.{cells_in, held_removed}
use Rattle.heap.specs.Represents.{Represents}

-- the cells from y along the links up to the cell b; n bounds their number
unfoldable pub walked : List ℕ → ℕ → ℕ → ℕ → ℕ
walked m b zero y = 0
walked m b (suc n) y = suc (choose (eqb y b) 0 (walked m b n (link m y)))

-- those of the region at place p, where there are n places for cells; an empty region's last word is no cell's place
unfoldable pub size_at : ℕ → List ℕ → List ℕ → ℕ → ℕ
size_at n m rs p = choose (leb n (last rs p)) 0 (walked m (last rs p) n (first rs p))

-- ---- turns of the walk
pub walk_ends : (m : List ℕ) (b n y : ℕ) → y ≡ b → walked m b (suc n) y ≡ 1
unfolding walked choose
walk_ends m b n y e = rw (eq-eqb y b e)

pub walk_goes : (m : List ℕ) (b n y : ℕ) → (y ≡ b → ⊥) → walked m b (suc n) y ≡ suc (walked m b n (link m y))
unfolding walked choose
walk_goes m b n y e = rw (ne_eqb y b e)

-- ---- the walk along a region's chain takes as many turns as the region has cells
module _ {h : Heap} {m rs : List ℕ} {own reg : Labels} {cells regions : ℕ} (L : Labelled h m rs own reg cells regions) (p : ℕ) where
  along : (n k a b : ℕ) → own a ≡ busy p k → own b ≡ busy p 0 → k < n → walked m b n a ≡ suc k
  along zero k a b ea eb l = absurd (omega arith)
  along (suc n) zero a b ea eb l = walk_ends m b n a (L.inj a b p 0 ea eb)
  along (suc n) (suc k) a b ea eb l =
      walk_goes m b n a (λ z. omega (arith, busy_height (sym ea ∙ ap own z ∙ eb)))
      ∙ ap suc (along n k (link m a) b (L.step a p k ea) eb (omega arith))

  size_from : (s : ℕ) → s ≤ h.cells.limit → Ends own h.cells.limit (first rs p) (last rs p) p s → size_at h.cells.limit m rs p ≡ s
  unfolding size_at choose
  size_from zero l e = rw (le-leb h.cells.limit (last rs p) e)
  size_from (suc k) l e =
      rw (lt-leb h.cells.limit (last rs p) (cell_low L (last rs p) p 0 e.1))
      (along h.cells.limit k (first rs p) (last rs p) e.0 e.1 (omega arith))

-- a living region's size is the number of the definition's cells in it
module _ {k : Room} {h : Heap} {m rs : List ℕ} {M : Memory} {ρ χ : ℕ → ℕ} (R : Represents k h m rs M ρ χ) (r : ℕ) (alive : M.alive r ≡ true) where
  few : cells_in r M.cells ≤ h.cells.limit
  few =
      let a = held_removed M.alive r alive M.cells in
      omega (arith, a, R.labelled.cell_count, R.labelled.cell_pool.high)

  pub size_is : size_at h.cells.limit m rs (ρ r) ≡ cells_in r M.cells
  size_is = size_from R.labelled (ρ r) (cells_in r M.cells) few (R.labelled.ends (ρ r) (cells_in r M.cells) (R.lives r alive))

-- ---- the loop: n cells are passed, y is next; the chain starts at a
pub record CellsPassed (m : List ℕ) (b limit a n y : ℕ) : Type 0 where
  pub low : n ≤ limit
  pub rest : n + walked m b (limit - n) y ≡ walked m b limit a

pub passed_none : (m : List ℕ) (b limit a : ℕ) → CellsPassed m b limit a 0 a
passed_none m b limit a = record { low = omega arith; rest = let z : limit - 0 ≡ limit = omega arith in rw z (omega arith) }

module _ {m : List ℕ} {b limit a n y : ℕ} (P : CellsPassed m b limit a n y) where
  pub passed_last : n < limit → y ≡ b → n + 1 ≡ walked m b limit a
  passed_last l e =
      let z : limit - n ≡ suc (limit - (n + 1)) = omega arith in
      omega (arith, walk_ends m b (limit - (n + 1)) y e, rw z at P.rest)

  pub passed_more : n < limit → (y ≡ b → ⊥) → CellsPassed m b limit a (n + 1) (link m y)
  passed_more l e =
      let z : limit - n ≡ suc (limit - (n + 1)) = omega arith in
      record { low = omega arith; rest = omega (arith, walk_goes m b (limit - (n + 1)) y e, rw z at P.rest) }

  pub passed_all : limit ≤ n → n ≡ walked m b limit a
  unfolding walked
  passed_all l = let z : limit - n ≡ 0 = omega arith in omega (arith, rw z at P.rest)

-- ---- both ways through the code
module _ (limit : ℕ) (m rs : List ℕ) (p : ℕ) where
  pub size_none : {b : ℕ} → b ≡ last rs p → limit ≤ b → 0 ≡ size_at limit m rs p
  unfolding size_at choose
  size_none e l = rw (le-leb limit (last rs p) (omega (arith, e)))

  pub size_walked : {b a n : ℕ} → b ≡ last rs p → b < limit → a ≡ first rs p → n ≡ walked m b limit a → n ≡ size_at limit m rs p
  unfolding size_at choose
  size_walked e l f w = rw (lt-leb limit (last rs p) (omega (arith, e)), ← e, ← f) w
