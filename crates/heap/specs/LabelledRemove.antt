-- A region is removed: its cells join the free ones in one splice, its own place too.
use Rattle.std.specs.Prelude.{ℕ, zero, suc, ◌+◌, ◌*◌, ◌<◌, ◌≡◌, refl, List, ◌≢◌, length, set}
use Rattle.std.proofs.Common.{sym, ap, ◌∙◌, subst, inl, inr, zero-add, arith, length-set}
use Rattle.std.proofs.Math.Path.{fun_ext}
use Rattle.std.proofs.Math.Decide.{ℕ_discrete, dec_le}
use Rattle.language.specs.Lists.{put}
use Rattle.laws.specs.Choices.{put_same, put_other}
use Rattle.memory.specs.declared.Pool.{Pool}
use Rattle.memory.specs.declared.Heap.{Heap}
use Rattle.memory.specs.Memory.{cell_words, region_words, cell_next, cell_word, with_word, link, first, last, headed, removed, removed_cells, removed_regions}
use Rattle.memory.specs.Laws.{remove_empty, remove_some}
use Rattle.heap.specs.Labels.{Label, free, busy, having, Labels, Vacant, was_fresh, was_free, free_busy, vacant_busy, free_height, busy_region, busy_height, joined, joined_fresh, joined_free, joined_in, joined_out, joined_same, Came, was, came, from_free, from_busy}
use Rattle.heap.specs.Pools.{PoolOk}
use Rattle.heap.specs.Giving.{Source, GivenBack, give_ok}
use Rattle.heap.specs.Words.{word_here, word_beside, word_other, first_here, first_other, last_first}
use Rattle.heap.specs.Labelled.{Ends, Labelled, ends_kept, cell_low, region_low, height_low}

-- region r has s cells; cells' and regions' are left
module _ {h : Heap} {m rs : List ℕ} {own reg : Labels} {cells regions : ℕ} (H : Labelled h m rs own reg cells regions) (r s : ℕ)
    (er : reg r ≡ having s) (cells' regions' : ℕ) (ec : cells ≡ s + cells') (es : regions ≡ suc regions') where
  abbrev pub cells_left : Labels
  cells_left y = joined r H.free_cells (own y)

  abbrev pub regions_left : Labels
  regions_left = put reg r (free H.free_regions)

  abbrev rs1 : List ℕ
  rs1 = set rs (region_words * r) h.regions.head

  kept_busy : (y q k : ℕ) → own y ≡ busy q k → q ≢ r → cells_left y ≡ busy q k
  kept_busy y q k e ne = ap (joined r H.free_cells) e ∙ joined_out r H.free_cells k ne

  -- ---- the region's own place is given back
  not_r : {y : ℕ} {l : Label} → Vacant l → reg y ≡ l → r ≢ y
  not_r v e z = vacant_busy v (sym e ∙ ap reg (sym z) ∙ er)

  -- that place alone, with none behind it
  abbrev Own : ℕ → ℕ → Type 0
  Own y j = (y ≡ r) × (j ≡ 0)

  region_whence : (y i : ℕ) → regions_left y ≡ free i → Source reg H.free_regions Own y i
  region_whence y i e = elim (ℕ_discrete r y) [
    | yes z ↦ inr (0, (sym z, refl), free_height (sym e ∙ ap regions_left (sym z) ∙ put_same reg r (free H.free_regions)) ∙ sym (zero-add H.free_regions))
    | no ne ↦ inl (sym (put_other reg r (free H.free_regions) y ne) ∙ e)
  ]

  gives_region : GivenBack reg regions_left (first rs) (first rs1) h.regions H.free_regions Own r 0
  gives_region = record {
    front = (refl, refl);
    step = λ y j e. absurd (omega (arith, e.1));
    final = λ y e. ap (first rs1) e.0 ∙ first_here rs r h.regions.head (omega (arith, H.regions_fit, region_low H r s er));
    small = λ y j e. omega (arith, e.1);
    inj = λ x y j e d. e.0 ∙ sym d.0;
    frees = λ y i e. put_other reg r (free H.free_regions) y (not_r was_free e) ∙ e;
    links = λ y i e. first_other rs r h.regions.head y (λ z. not_r was_free e (sym z));
    freshes = λ y e. put_other reg r (free H.free_regions) y (not_r was_fresh e) ∙ e;
    joins = λ y j e. ap regions_left e.0 ∙ put_same reg r (free H.free_regions) ∙ ap free (omega (arith, e.1));
    whence = region_whence;
  }

  left_regions : PoolOk regions_left (first rs1) (headed h.regions r) (suc H.free_regions)
  left_regions = rw (zero-add H.free_regions) at (give_ok H.region_pool gives_region)

  -- ---- the rest is the same whether or not the region had cells
  module _ (p : Pool) (m' : List ℕ) (n : ℕ) (size : length m' ≡ length m) (same : p.limit ≡ h.cells.limit)
      (ok : PoolOk cells_left (link m') p n) (count : n + cells' ≡ p.top)
      (links : (y q k : ℕ) → own y ≡ busy q k → q ≢ r → link m' y ≡ link m y) where
    left_inside : (y q k : ℕ) → cells_left y ≡ busy q k → (t : ℕ) × (regions_left q ≡ having t) × (k < t)
    left_inside y q k e =
        let d = from_busy r H.free_cells (own y) q k e in
        let i = H.inside y q k d.0 in
        (i.0, put_other reg r (free H.free_regions) q (λ z. d.1 (sym z)) ∙ i.1, i.2)

    left_step : (y q k : ℕ) → cells_left y ≡ busy q (suc k) → cells_left (link m' y) ≡ busy q k
    left_step y q k e =
        let d = from_busy r H.free_cells (own y) q (suc k) e in
        ap cells_left (links y q (suc k) d.0 d.1) ∙ kept_busy (link m y) q k (H.step y q k d.0) d.1

    left_ends : (q t : ℕ) → regions_left q ≡ having t → Ends cells_left h.cells.limit (first rs1 q) (last rs1 q) q t
    left_ends q t e = elim (ℕ_discrete r q) [
      | yes z ↦ absurd (free_busy (sym (put_same reg r (free H.free_regions)) ∙ ap regions_left z ∙ e))
      | no ne ↦
          ends_kept own cells_left h.cells.limit (first rs q) (last rs q) (first rs1 q) (last rs1 q) q t
          (λ y k d. kept_busy y q k d (λ z. ne (sym z)))
          (first_other rs r h.regions.head q (λ z. ne (sym z)))
          (last_first rs r h.regions.head q)
          (H.ends q t (sym (put_other reg r (free H.free_regions) q ne) ∙ e))
    ]

    left_labelled : Labelled (record { cells = p; regions = headed h.regions r }) m' rs1 cells_left regions_left cells' regions'
    left_labelled = record {
      free_cells = n;
      free_regions = suc H.free_regions;
      cells_fit = rw (same, size) H.cells_fit;
      regions_fit = rw length-set H.regions_fit;
      cell_pool = ok;
      region_pool = left_regions;
      cell_count = count;
      region_count = omega (arith, H.region_count);
      inside = left_inside;
      step = left_step;
      inj = λ x y q k e d. H.inj x y q k (from_busy r H.free_cells (own x) q k e).0 (from_busy r H.free_cells (own y) q k d).0;
      ends = rw same left_ends;
    }

  -- ---- a region without cells has none to give back
  no_cells_law : reg r ≡ having 0 → (y : ℕ) → own y ≡ cells_left y
  no_cells_law e y = sym (joined_same r H.free_cells (own y) (λ k d. omega (arith, height_low H y r k 0 d e)))

  left_empty : reg r ≡ having 0 → cells ≡ cells'
      → Labelled (record { cells = h.cells; regions = headed h.regions r }) m rs1 cells_left regions_left cells' regions'
  left_empty e u =
      let ok = subst (λ o. PoolOk o (link m) h.cells H.free_cells) (fun_ext (no_cells_law e)) H.cell_pool in
      left_labelled h.cells m H.free_cells refl refl ok (omega (arith, H.cell_count)) (λ y q k d ne. refl)

  -- ---- a region with suc k cells gives them back: the last is linked to the first of the free ones
  module _ (k : ℕ) (e : reg r ≡ having (suc k)) (ef : own (first rs r) ≡ busy r k) (el : own (last rs r) ≡ busy r 0) where
    abbrev m1 : List ℕ
    m1 = with_word m (last rs r) cell_next h.cells.head

    apart : {y a b : ℕ} → own y ≡ busy a b → (a ≡ r → b ≡ 0 → ⊥) → y ≢ last rs r
    apart d no_r z = no_r (busy_region (sym d ∙ ap own z ∙ el)) (busy_height (sym d ∙ ap own z ∙ el))

    links_kept : (y : ℕ) → y ≢ last rs r → link m1 y ≡ link m y
    links_kept y ne = word_other m (last rs r) cell_next h.cells.head y cell_next ne (omega arith) (omega arith)

    last_linked : link m1 (last rs r) ≡ h.cells.head
    last_linked = word_here m (last rs r) cell_next h.cells.head (omega (arith, H.cells_fit, cell_low H (last rs r) r 0 el))

    cell_whence : (y i : ℕ) → Came r H.free_cells (own y) i → Source own H.free_cells (λ y j. own y ≡ busy r j) y i
    cell_whence y i (was q) = inl q
    cell_whence y i (came j q z) = inr (j, q, z)

    gives_cells : GivenBack own cells_left (link m) (link m1) h.cells H.free_cells (λ y j. own y ≡ busy r j) (first rs r) k
    gives_cells = record {
      front = ef;
      step = λ y j d. ap own (links_kept y (apart d (λ z b. omega arith))) ∙ H.step y r j d;
      final = λ y d. ap (link m1) (H.inj y (last rs r) r 0 d el) ∙ last_linked;
      small = λ y j d. height_low H y r j (suc k) d e;
      inj = λ x y j d q. H.inj x y r j d q;
      frees = λ y i d. ap (joined r H.free_cells) d ∙ joined_free r H.free_cells i;
      links = λ y i d. links_kept y (λ z. free_busy (sym d ∙ ap own z ∙ el));
      freshes = λ y d. ap (joined r H.free_cells) d ∙ joined_fresh r H.free_cells;
      joins = λ y j d. ap (joined r H.free_cells) d ∙ joined_in r H.free_cells j;
      whence = λ y i d. cell_whence y i (from_free r H.free_cells (own y) i d);
    }

    left_some : cells ≡ suc k + cells'
        → Labelled (record { cells = headed h.cells (first rs r); regions = headed h.regions r }) m1 rs1 cells_left regions_left cells' regions'
    left_some u =
        left_labelled (headed h.cells (first rs r)) m1 (suc (k + H.free_cells)) (length-set m (cell_words * last rs r + cell_next) h.cells.head) refl
        (give_ok H.cell_pool gives_cells)
        (omega (arith, H.cell_count))
        (λ y q j d ne. links_kept y (apart d (λ z b. ne z)))

  abbrev Left : Type 0
  Left = Labelled (removed h rs r) (removed_cells h m rs r) (removed_regions h rs r) cells_left regions_left cells' regions'

  remove_by : (s : ℕ) → reg r ≡ having s → cells ≡ s + cells' → Ends own h.cells.limit (first rs r) (last rs r) r s → Left
  remove_by zero e u E =
      let q = remove_empty h m rs r (first rs r) (last rs r) refl refl rs1 refl E in
      rw (← q.0, ← q.1, ← q.2) (left_empty e (omega arith))
  remove_by (suc k) e u E =
      let q = remove_some h m rs r (first rs r) (last rs r) refl refl rs1 refl (cell_low H (last rs r) r 0 E.1) (m1 k e E.0 E.1) refl in
      rw (← q.0, ← q.1, ← q.2) (left_some k e E.0 E.1 u)

  pub removes : Left
  removes = remove_by s er ec (H.ends r s er)

-- a remove changes no functor and no argument
pub remove_words : (h : Heap) (m rs : List ℕ) (r y k : ℕ) → k < cell_next → cell_word (removed_cells h m rs r) y k ≡ cell_word m y k
remove_words h m rs r y k hk = elim (dec_le h.cells.limit (last rs r)) [
  | yes l ↦ ap (λ l. cell_word l y k) (sym (remove_empty h m rs r (first rs r) (last rs r) refl refl (set rs (region_words * r) h.regions.head) refl l).1)
  | no l ↦
      let q = remove_some h m rs r (first rs r) (last rs r) refl refl (set rs (region_words * r) h.regions.head) refl (omega arith) (with_word m (last rs r) cell_next h.cells.head) refl in
      ap (λ l. cell_word l y k) (sym q.1) ∙ word_beside m (last rs r) cell_next h.cells.head y k (λ e. omega arith) (omega arith) (omega arith)
]
