-- A condition on words, computed (C-20). Before it, one region has one cell. It builds a second cell there, makes a region, builds a cell in that and removes
-- the first region. Undone, the first region has its one cell at its two ends, and the places taken are free again, the newest of them last.
use Rattle.std.specs.Prelude.{ℕ, ◌≡◌, refl, List, [], ◌∷◌, Option, Some, None}
use Rattle.language.specs.Lists.{choose}
use Rattle.memory.specs.declared.Heap.{Heap}
use Rattle.memory.specs.Memory.{link, first, last, taken, unused, empty_heap, created, created_of, created_regions, created_regions_of, filled, hung, built_of, built, built_cells, built_cells_of, built_regions, built_regions_of, removed, removed_cells, removed_regions}
use Rattle.memory.specs.Log.{built_in, made_at, removed_at, entry, Stored, stored, unbuilt, unbuilt_cells, unhung, unbuilt_regions, without_cell, without, undone_of, undone_one, undone, freed_of, freed_one, freed}

heap_of : Heap → Option (ℕ × Heap) → Heap
heap_of h (Some (x, g)) = g
heap_of h None = h

build : ℕ → Stored → Stored
build r s =
    record {
      heap = heap_of s.heap (built s.heap s.cells);
      cells = built_cells s.heap s.cells s.regions r (record { functor = 5; a = 6; b = 7; c = 8; d = 9 });
      regions = built_regions s.heap s.cells s.regions r;
    }

make : Stored → Stored
make s = record { heap = heap_of s.heap (created s.heap s.regions); cells = s.cells; regions = created_regions s.heap s.regions }

-- 3 cells, 2 regions
before : Stored
before = build 0 (make (stored (empty_heap 3 2) (0 ∷ 0 ∷ 0 ∷ 0 ∷ 0 ∷ 0 ∷ 0 ∷ 0 ∷ 0 ∷ 0 ∷ 0 ∷ 0 ∷ 0 ∷ 0 ∷ 0 ∷ 0 ∷ 0 ∷ 0 ∷ 0 ∷ 0 ∷ 0 ∷ 0 ∷ 0 ∷ 0 ∷ []) (0 ∷ 0 ∷ 0 ∷ 0 ∷ [])))

inside : Stored
inside = build 1 (make (build 0 before))

log : List ℕ
log = entry 0 built_in ∷ entry 1 made_at ∷ entry 1 built_in ∷ entry 0 removed_at ∷ []

-- all three cells and both regions are held
full : (built inside.heap inside.cells ≡ None) × (created inside.heap inside.regions ≡ None)
unfolding inside before build make heap_of empty_heap unused created created_regions created_of created_regions_of built built_of built_cells built_cells_of built_regions built_regions_of taken choose filled hung
full = (refl, refl)

-- .. again one region with cell 0; cells 1 and 2 are free, in this order, and region 1
back : (first (undone log 4 inside).regions 0 ≡ 0) × (last (undone log 4 inside).regions 0 ≡ 0) × ((undone log 4 inside).heap.cells.head ≡ 1)
    × (link (undone log 4 inside).cells 1 ≡ 2) × (link (undone log 4 inside).cells 2 ≡ 3) × ((undone log 4 inside).heap.cells.top ≡ 3)
    × ((undone log 4 inside).heap.regions.head ≡ 1) × (first (undone log 4 inside).regions 1 ≡ 2)
unfolding log inside before build make heap_of empty_heap unused created created_regions created_of created_regions_of built built_of built_cells built_cells_of built_regions built_regions_of taken choose filled hung undone undone_one undone_of without_cell without unbuilt unbuilt_cells unhung unbuilt_regions removed removed_cells removed_regions
back = (refl, refl, refl, refl, refl, refl, refl, refl)

-- had the condition ended instead, region 0 and its two cells are free, and the cell in region 1 stays
onward : ((freed log 4 inside).heap.regions.head ≡ 0) × ((freed log 4 inside).heap.cells.head ≡ 1) × (link (freed log 4 inside).cells 1 ≡ 0)
    × (first (freed log 4 inside).regions 1 ≡ 2)
unfolding log inside before build make heap_of empty_heap unused created created_regions created_of created_regions_of built built_of built_cells built_cells_of built_regions built_regions_of taken choose filled hung freed freed_one freed_of without removed removed_cells removed_regions
onward = (refl, refl, refl, refl)
