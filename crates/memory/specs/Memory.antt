-- The memory's functions on lists of words.
use Rattle.std.specs.Prelude.{ℕ, ◌+◌, ◌*◌, Bool, List, get_or, set, leb, eqb, Option, Some, None}
use Rattle.language.specs.Lists.{choose}
use Rattle.memory.specs.declared.Contents.{Contents}
use Rattle.memory.specs.declared.Pool.{Pool}
use Rattle.memory.specs.declared.Heap.{Heap}

-- "Lent 32-bit words hold: 8 a cell, 2 a region"; the code has these numbers under the same names (src/lib.rt)
abbrev pub cell_words : ℕ
cell_words = 8

abbrev pub region_words : ℕ
region_words = 2

-- the word of a cell where its four arguments start, behind the functor, and the link to the next of its region or of the free ones
abbrev pub cell_arguments : ℕ
cell_arguments = 1

abbrev pub cell_next : ℕ
cell_next = 5

-- the word of a region that names its last cell
abbrev pub region_last : ℕ
region_last = 1

-- "more than 65,535 of a sort count as 65,535"
abbrev pub most : ℕ
most = 65535

-- A term's word is the place of its cell or, above all places, a constant, "in the word itself" (C-14): this number and its functor. Of numbers, which
-- take any word, the variable's type tells both.
abbrev pub constants_from : ℕ
constants_from = 65536

-- word k of a cell
abbrev pub cell_word : List ℕ → ℕ → ℕ → ℕ
cell_word m x k = get_or m (cell_words * x + k) 0

abbrev pub with_word : List ℕ → ℕ → ℕ → ℕ → List ℕ
with_word m x k v = set m (cell_words * x + k) v

abbrev pub link : List ℕ → ℕ → ℕ
link m x = cell_word m x cell_next

abbrev pub with_link : List ℕ → ℕ → ℕ → List ℕ
with_link m x v = with_word m x cell_next v

-- a region's first and last cell; a free region's first word is the link to the next free one
abbrev pub first : List ℕ → ℕ → ℕ
first m r = get_or m (region_words * r) 0

abbrev pub last : List ℕ → ℕ → ℕ
last m r = get_or m (region_words * r + region_last) 0

-- ---- the free places of a sort
unfoldable pub unused : ℕ → Pool
unused n = record { head = 0; top = 0; limit = n }

abbrev pub headed : Pool → ℕ → Pool
headed p x = record { head = x; top = p.top; limit = p.limit }

abbrev pub raised : Pool → Pool
raised p = record { head = p.head + 1; top = p.head + 1; limit = p.limit }

-- the first free place; the next stands behind it on the chain, or is the first that was never used
unfoldable pub taken : Pool → ℕ → Option (ℕ × Pool)
taken p l = choose (leb p.limit p.head) None (choose (eqb p.head p.top) (Some (p.head, raised p)) (Some (p.head, headed p l)))

unfoldable pub empty_heap : ℕ → ℕ → Heap
empty_heap cells regions = record { cells = unused cells; regions = unused regions }

-- ---- a region is created
abbrev pub region_taken : Heap → List ℕ → Option (ℕ × Pool)
region_taken h rs = taken h.regions (first rs h.regions.head)

unfoldable pub created_of : Heap → Option (ℕ × Pool) → Option (ℕ × Heap)
created_of h (Some (r, p)) = Some (r, record { cells = h.cells; regions = p })
created_of h None = None

unfoldable pub created_regions_of : Heap → List ℕ → Option (ℕ × Pool) → List ℕ
created_regions_of h rs (Some (r, p)) = set rs (region_words * r + region_last) h.cells.limit
created_regions_of h rs None = rs

unfoldable pub created : Heap → List ℕ → Option (ℕ × Heap)
created h rs = created_of h (region_taken h rs)

unfoldable pub created_regions : Heap → List ℕ → List ℕ
created_regions h rs = created_regions_of h rs (region_taken h rs)

-- ---- a cell is built in region r
abbrev pub cell_taken : Heap → List ℕ → Option (ℕ × Pool)
cell_taken h m = taken h.cells (link m h.cells.head)

unfoldable pub filled : List ℕ → ℕ → Contents → ℕ → List ℕ
filled m x c n =
    with_word (with_word (with_word (with_word (with_word (with_word m x 0 c.functor) x 1 c.a) x 2 c.b) x 3 c.c) x 4 c.d) x cell_next n

unfoldable pub hung : List ℕ → ℕ → ℕ → ℕ → List ℕ
hung rs r x n = choose (leb n (last rs r)) (set (set rs (region_words * r) x) (region_words * r + region_last) x) (set rs (region_words * r) x)

unfoldable pub built_of : Heap → Option (ℕ × Pool) → Option (ℕ × Heap)
built_of h (Some (x, p)) = Some (x, record { cells = p; regions = h.regions })
built_of h None = None

unfoldable pub built_cells_of : List ℕ → List ℕ → ℕ → Contents → Option (ℕ × Pool) → List ℕ
built_cells_of m rs r c (Some (x, p)) = filled m x c (first rs r)
built_cells_of m rs r c None = m

unfoldable pub built_regions_of : Heap → List ℕ → ℕ → Option (ℕ × Pool) → List ℕ
built_regions_of h rs r (Some (x, p)) = hung rs r x h.cells.limit
built_regions_of h rs r None = rs

unfoldable pub built : Heap → List ℕ → Option (ℕ × Heap)
built h m = built_of h (cell_taken h m)

unfoldable pub built_cells : Heap → List ℕ → List ℕ → ℕ → Contents → List ℕ
built_cells h m rs r c = built_cells_of m rs r c (cell_taken h m)

unfoldable pub built_regions : Heap → List ℕ → List ℕ → ℕ → List ℕ
built_regions h m rs r = built_regions_of h rs r (cell_taken h m)

-- ---- region r is removed; an empty region's last word is no cell's place
abbrev pub is_empty : Heap → List ℕ → ℕ → Bool
is_empty h rs r = leb h.cells.limit (last rs r)

unfoldable pub removed : Heap → List ℕ → ℕ → Heap
removed h rs r = record { cells = choose (is_empty h rs r) h.cells (headed h.cells (first rs r)); regions = headed h.regions r }

unfoldable pub removed_cells : Heap → List ℕ → List ℕ → ℕ → List ℕ
removed_cells h m rs r = choose (is_empty h rs r) m (with_word m (last rs r) cell_next h.cells.head)

unfoldable pub removed_regions : Heap → List ℕ → ℕ → List ℕ
removed_regions h rs r = set rs (region_words * r) h.regions.head
