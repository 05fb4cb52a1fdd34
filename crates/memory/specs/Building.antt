-- A cell that is taken, filled and hung into a region is built there. A word that a cell's filling leaves alone is one that it fills with what stands there.
use Rattle.std.specs.Prelude.{ℕ, ◌≡◌, refl, Bool, true, false, List, get_or, set, Option, Some, None}
use Rattle.std.proofs.Common.{arith, ap, sym}
use Rattle.std.proofs.lemmas.List.{set-get_or}
use Rattle.language.specs.Lists.{choose}
use Rattle.memory.specs.declared.Contents.{Contents}
use Rattle.memory.specs.declared.Pool.{Pool}
use Rattle.memory.specs.declared.Heap.{Heap}
use Rattle.memory.specs.Memory.{first, raised, taken, filled, hung, built, built_of, built_cells, built_cells_of, built_regions, built_regions_of}

pub not_made : (y : ℕ) (h : Heap) → ◌≡◌ {A = Option (ℕ × Heap)} None (Some (y, h)) → ⊥
not_made y h e = let z : ◌≡◌ {A = ℕ} 0 1 = cc in omega arith

pub same_made : {x y : ℕ} {g h : Heap} → ◌≡◌ {A = Option (ℕ × Heap)} (Some (x, g)) (Some (y, h)) → (x ≡ y) × (g ≡ h)
same_made {x} {y} {g} {h} e = let q : ◌≡◌ {A = ℕ × Heap} (x, g) (y, h) = cc in (ap (λ (p : ℕ × Heap). p.0) q, ap (λ (p : ℕ × Heap). p.1) q)

module _ (h : Heap) (m rs : List ℕ) (r : ℕ) (c : Contents) where
  -- no cell is left: nothing changes
  full_of : (t : Option (ℕ × Pool)) → None ≡ built_of h t → (built_cells_of m rs r c t ≡ m) × (built_regions_of h rs r t ≡ rs)
  unfolding built_of built_cells_of built_regions_of
  full_of (Some (x, p)) e = absurd (not_made _ _ e)
  full_of None e = (refl, refl)

  pub built_none : None ≡ built h m → (built_cells h m rs r c ≡ m) × (built_regions h m rs r ≡ rs)
  unfolding built built_cells built_regions
  built_none e = full_of _ e

  -- cell x is taken
  made_of : (t : Option (ℕ × Pool)) (x : ℕ) (g : Heap) → Some (x, g) ≡ built_of h t
      → (built_cells_of m rs r c t ≡ filled m x c (first rs r)) × (built_regions_of h rs r t ≡ hung rs r x h.cells.limit)
  unfolding built_of built_cells_of built_regions_of
  made_of (Some (y, p)) x g e = rw (same_made e).0 (refl, refl)
  made_of None x g e = absurd (not_made _ _ (sym e))

  pub built_made : (x : ℕ) (g : Heap) → Some (x, g) ≡ built h m → (built_cells h m rs r c ≡ filled m x c (first rs r)) × (built_regions h m rs r ≡ hung rs r x h.cells.limit)
  unfolding built built_cells built_regions
  built_made x g e = made_of _ x g e

-- .. it was the first free one
place_of : (h : Heap) (b d : Bool) (g : Pool) (x : ℕ) (l : Heap) → Some (x, l) ≡ built_of h (choose b None (choose d (Some (h.cells.head, raised h.cells)) (Some (h.cells.head, g))))
    → x ≡ h.cells.head
unfolding built_of choose
place_of h true d g x l e = absurd (not_made _ _ (sym e))
place_of h false true g x l e = (same_made e).0
place_of h false false g x l e = (same_made e).0

pub built_place : (h : Heap) (m : List ℕ) (x : ℕ) (l : Heap) → Some (x, l) ≡ built h m → x ≡ h.cells.head
unfolding built taken
built_place h m x l e = place_of h _ _ _ x l e

-- a word that is filled with what stands there
pub still : (t m : List ℕ) (j : ℕ) → get_or t j 0 ≡ get_or m j 0 → set t j (get_or m j 0) ≡ t
still t m j e = rw (← e) (set-get_or t j 0)
