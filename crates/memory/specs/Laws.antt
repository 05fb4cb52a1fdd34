-- What each function comes to on each way through it.
use Rattle.std.specs.Prelude.{ℕ, ◌+◌, ◌*◌, ◌≤◌, ◌<◌, ◌≡◌, List, set, Some, None}
use Rattle.std.proofs.Math.Path.{refl}
use borrow.Author.Tests.{le-leb, lt-leb, eq-eqb, ne_eqb}
use Rattle.language.specs.Lists.{choose}
use Rattle.memory.specs.declared.Pool.{Pool}
use Rattle.memory.specs.declared.Heap.{Heap}
use Rattle.memory.specs.Memory.{cell_words, region_words, cell_next, region_last, first, last, headed, raised, taken, hung, removed, removed_cells, removed_regions}

module _ (p : Pool) (l : ℕ) where
  pub take_full : p.limit ≤ p.head → taken p l ≡ None
  unfolding taken choose
  take_full h = rw (le-leb _ _ h)

  pub take_top : p.head < p.limit → p.head ≡ p.top → taken p l ≡ Some (p.head, raised p)
  unfolding taken choose
  take_top h e = rw (lt-leb _ _ h, eq-eqb _ _ e)

  pub take_link : p.head < p.limit → (p.head ≡ p.top → ⊥) → taken p l ≡ Some (p.head, headed p l)
  unfolding taken choose
  take_link h e = rw (lt-leb _ _ h, ne_eqb _ _ e)

module _ (rs : List ℕ) (r x n l : ℕ) (e : l ≡ last rs r) (rs₁ : List ℕ) (e₁ : rs₁ ≡ set rs (region_words * r) x) where
  pub hang_first : n ≤ l → (rs₂ : List ℕ) → rs₂ ≡ set rs₁ (region_words * r + region_last) x → rs₂ ≡ hung rs r x n
  unfolding hung choose
  hang_first h rs₂ e₂ = rw (e₂, e₁, ← e, le-leb _ _ h)

  pub hang_more : l < n → rs₁ ≡ hung rs r x n
  unfolding hung choose
  hang_more h = rw (e₁, ← e, lt-leb _ _ h)

module _ (h : Heap) (m rs : List ℕ) (r x l : ℕ) (ex : x ≡ first rs r) (e : l ≡ last rs r) (rs₁ : List ℕ) (e₁ : rs₁ ≡ set rs (region_words * r) h.regions.head) where
  pub remove_empty : h.cells.limit ≤ l
      → (record { cells = h.cells; regions = headed h.regions r } ≡ removed h rs r) × (m ≡ removed_cells h m rs r) × (rs₁ ≡ removed_regions h rs r)
  unfolding removed removed_cells removed_regions choose
  remove_empty g = rw (e₁, ← e, le-leb _ _ g) (refl, refl, refl)

  pub remove_some : l < h.cells.limit → (m₁ : List ℕ) → m₁ ≡ set m (cell_words * l + cell_next) h.cells.head
      → (record { cells = headed h.cells x; regions = headed h.regions r } ≡ removed h rs r) × (m₁ ≡ removed_cells h m rs r) × (rs₁ ≡ removed_regions h rs r)
  unfolding removed removed_cells removed_regions choose
  remove_some g m₁ em = rw (e₁, em, ex, ← e, lt-leb _ _ g) (refl, refl, refl)
