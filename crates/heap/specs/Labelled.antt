-- The labels say truly what stands in the words.
use Rattle.std.specs.Prelude.{ℕ, zero, suc, ◌+◌, ◌*◌, ◌≤◌, ◌<◌, ◌≡◌, List, length}
use Rattle.std.proofs.Common.{sym, ◌∙◌, arith}
use Rattle.memory.specs.declared.Heap.{Heap}
use Rattle.memory.specs.Memory.{cell_words, region_words, link, first, last, unused, empty_heap}
use Rattle.heap.specs.Labels.{fresh, busy, having, Labels, fresh_busy}
use Rattle.heap.specs.Pools.{PoolOk, below, start_pool}

-- the first and last cell of a region with s cells; of an empty one the last word is no cell's place
abbrev pub Ends : Labels → ℕ → ℕ → ℕ → ℕ → ℕ → Type 0
Ends own n a b r zero = n ≤ b
Ends own n a b r (suc k) = (own a ≡ busy r k) × (own b ≡ busy r 0)

-- `own` labels the places of cells and `reg` those of regions; `cells` and `regions` count the busy ones
pub record Labelled (h : Heap) (m rs : List ℕ) (own reg : Labels) (cells regions : ℕ) : Type 0 where
  pub free_cells : ℕ
  pub free_regions : ℕ
  pub cells_fit : cell_words * h.cells.limit ≤ length m
  pub regions_fit : region_words * h.regions.limit ≤ length rs
  pub cell_pool : PoolOk own (link m) h.cells free_cells
  pub region_pool : PoolOk reg (first rs) h.regions free_regions
  pub cell_count : free_cells + cells ≡ h.cells.top
  pub region_count : free_regions + regions ≡ h.regions.top
  pub inside : (y r k : ℕ) → own y ≡ busy r k → (s : ℕ) × (reg r ≡ having s) × (k < s)
  pub step : (y r k : ℕ) → own y ≡ busy r (suc k) → own (link m y) ≡ busy r k
  pub inj : (x y r k : ℕ) → own x ≡ busy r k → own y ≡ busy r k → x ≡ y
  pub ends : (r s : ℕ) → reg r ≡ having s → Ends own h.cells.limit (first rs r) (last rs r) r s

-- whatever stands in the words at the start
pub start_labelled : (n k : ℕ) (m rs : List ℕ) → cell_words * n ≤ length m → region_words * k ≤ length rs
    → Labelled (empty_heap n k) m rs (λ x. fresh) (λ x. fresh) 0 0
unfolding empty_heap unused
start_labelled n k m rs hm hr = record {
  free_cells = 0;
  free_regions = 0;
  cells_fit = hm;
  regions_fit = hr;
  cell_pool = start_pool n (link m);
  region_pool = start_pool k (first rs);
  cell_count = omega arith;
  region_count = omega arith;
  inside = λ y r j e. absurd (fresh_busy e);
  step = λ y r j e. absurd (fresh_busy e);
  inj = λ x y r j e d. absurd (fresh_busy e);
  ends = λ r s e. absurd (fresh_busy e);
}

pub having_size : {s t : ℕ} → having s ≡ having t → s ≡ t
having_size e = cc

-- a region's ends as they were, under labels that keep its cells
pub ends_kept : (own own' : Labels) (n a b a' b' r s : ℕ) → ((y k : ℕ) → own y ≡ busy r k → own' y ≡ busy r k) → a' ≡ a → b' ≡ b
    → Ends own n a b r s → Ends own' n a' b' r s
ends_kept own own' n a b a' b' r zero kept ea eb e = rw eb e
ends_kept own own' n a b a' b' r (suc k) kept ea eb e = rw (ea, eb) (kept a k e.0, kept b 0 e.1)

module _ {h : Heap} {m rs : List ℕ} {own reg : Labels} {cells regions : ℕ} (H : Labelled h m rs own reg cells regions) where
  -- busy places are below the limit
  pub cell_low : (y r k : ℕ) → own y ≡ busy r k → y < h.cells.limit
  cell_low y r k e = omega (arith, below H.cell_pool y (λ z. fresh_busy (sym z ∙ e)), H.cell_pool.high)

  pub region_low : (r s : ℕ) → reg r ≡ having s → r < h.regions.limit
  region_low r s e = omega (arith, below H.region_pool r (λ z. fresh_busy (sym z ∙ e)), H.region_pool.high)

  -- a region's cells stand below its size
  pub height_low : (y r k s : ℕ) → own y ≡ busy r k → reg r ≡ having s → k < s
  height_low y r k s e d = let i = H.inside y r k e in omega (arith, i.2, having_size (sym i.1 ∙ d))
