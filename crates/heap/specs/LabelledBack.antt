-- A region loses its first cell again (C-20): the cell becomes the first of the free ones.
use Prim.Native.Nat.{ℕ, zero, suc, ◌+◌, ◌*◌, ◌≤◌, ◌<◌}
use Rattle.std.specs.Prelude.{◌≡◌, refl, List, ◌≢◌, length, set}
use Rattle.std.proofs.Common.{sym, ap, ◌∙◌, inl, inr, zero-add, arith, eq-eqb, ne_eqb}
use Rattle.std.proofs.Math.Decide.{ℕ_discrete}
use Rattle.std.proofs.Math.ListN.{length-set}
use Rattle.language.specs.Lists.{put, choose}
use Rattle.laws.specs.Choices.{put_same, put_other}
use Rattle.memory.specs.declared.Heap.{Heap}
use Rattle.memory.specs.Memory.{region_words, region_last, cell_next, cell_word, link, with_link, first, last, headed}
use Rattle.memory.specs.Log.{unbuilt, unbuilt_cells, unhung, unbuilt_regions}
use Rattle.heap.specs.Labels.{Label, free, busy, having, Labels, Vacant, was_fresh, was_free, free_busy, vacant_busy, free_height, busy_region, busy_height}
use Rattle.heap.specs.Pools.{PoolOk, NowBusy, stays_ok}
use Rattle.heap.specs.Giving.{Source, GivenBack, give_ok}
use Rattle.heap.specs.Words.{word_here, word_beside, word_other, first_here, first_other, first_last, last_here, last_other, last_first}
use Rattle.heap.specs.Labelled.{Ends, Labelled, having_size, ends_kept, cell_low, region_low, height_low}

-- ---- the words of a region whose first cell is x instead; n is no cell's place
module _ (rs : List ℕ) (r x n : ℕ) where
  pub record UnhungCell (rs' : List ℕ) : Type 0 where
    pub size : length rs' ≡ length rs
    pub front : region_words * r + region_words ≤ length rs → first rs' r ≡ x
    pub firsts : (q : ℕ) → q ≢ r → first rs' q ≡ first rs q
    pub lasts : (q : ℕ) → q ≢ r → last rs' q ≡ last rs q
    pub none : region_words * r + region_words ≤ length rs → first rs r ≡ last rs r → last rs' r ≡ n
    pub kept : first rs r ≢ last rs r → last rs' r ≡ last rs r

  abbrev rs0 : List ℕ
  rs0 = set rs (region_words * r) x

  unhung_only : first rs r ≡ last rs r → UnhungCell (set rs0 (region_words * r + region_last) n)
  unhung_only e = record {
    size = simp length-set;
    front = λ b. first_last rs0 r n r ∙ first_here rs r x b;
    firsts = λ q ne. first_last rs0 r n q ∙ first_other rs r x q ne;
    lasts = λ q ne. last_other rs0 r n q ne ∙ last_first rs r x q;
    none = λ b g. last_here rs0 r n (rw length-set b);
    kept = λ g. absurd (g e);
  }

  unhung_more : first rs r ≢ last rs r → UnhungCell rs0
  unhung_more ne = record {
    size = simp length-set;
    front = λ b. first_here rs r x b;
    firsts = λ q d. first_other rs r x q d;
    lasts = λ q d. last_first rs r x q;
    none = λ b g. absurd (ne g);
    kept = λ g. last_first rs r x r;
  }

  pub unhung_ok : UnhungCell (unhung rs r x n)
  unfolding unhung choose
  unhung_ok = elim (ℕ_discrete (first rs r) (last rs r)) [
    | yes e ↦ rw (eq-eqb (first rs r) (last rs r) e) (unhung_only e)
    | no ne ↦ rw (ne_eqb (first rs r) (last rs r) ne) (unhung_more ne)
  ]

-- region r has suc s cells
module _ {h : Heap} {m rs : List ℕ} {own reg : Labels} {cells regions : ℕ} (H : Labelled h m rs own reg (suc cells) regions) (r s : ℕ)
    (er : reg r ≡ having (suc s)) where
  -- its first one
  abbrev pub x : ℕ
  x = first rs r

  abbrev pub cells_back : Labels
  cells_back = put own x (free H.free_cells)

  abbrev pub regions_back : Labels
  regions_back = put reg r (having s)

  abbrev m1 : List ℕ
  m1 = with_link m x h.cells.head

  abbrev rs1 : List ℕ
  rs1 = unhung rs r (link m x) h.cells.limit

  pub first_label : own x ≡ busy r s
  first_label = (H.ends r (suc s) er).0

  last_label : own (last rs r) ≡ busy r 0
  last_label = (H.ends r (suc s) er).1

  unhang : UnhungCell rs r (link m x) h.cells.limit rs1
  unhang = unhung_ok rs r (link m x) h.cells.limit

  fits : region_words * r + region_words ≤ length rs
  fits = omega (arith, H.regions_fit, region_low H r (suc s) er)

  -- ---- what stays busy
  was : {y q k : ℕ} → cells_back y ≡ busy q k → (x ≢ y) × (own y ≡ busy q k)
  was {y} e =
      let ne : x ≢ y = λ z. free_busy (sym (put_same own x (free H.free_cells)) ∙ ap cells_back z ∙ e) in
      (ne, sym (put_other own x (free H.free_cells) y ne) ∙ e)

  pub busy_kept : {y q k : ℕ} → own y ≡ busy q k → (q ≡ r → k ≢ s) → cells_back y ≡ busy q k
  busy_kept {y} e no_x =
      put_other own x (free H.free_cells) y (λ z. let d = sym e ∙ ap own (sym z) ∙ first_label in no_x (busy_region d) (busy_height d)) ∙ e

  -- the others of region r stand lower
  lower : {y k : ℕ} → x ≢ y → own y ≡ busy r k → k < s
  lower {y} {k} ne e =
      let d : k ≢ s = λ z. ne (H.inj x y r s first_label (e ∙ ap (busy r) z)) in
      omega (arith, height_low H y r k (suc s) e er, d)

  links_kept : (y : ℕ) → x ≢ y → link m1 y ≡ link m y
  links_kept y ne = word_other m x cell_next h.cells.head y cell_next (λ z. ne (sym z)) (omega arith) (omega arith)

  -- ---- the place is given back
  abbrev Own : ℕ → ℕ → Type 0
  Own y j = (y ≡ x) × (j ≡ 0)

  not_x : {y : ℕ} {l : Label} → Vacant l → own y ≡ l → x ≢ y
  not_x v e z = vacant_busy v (sym e ∙ ap own (sym z) ∙ first_label)

  whence : (y i : ℕ) → cells_back y ≡ free i → Source own H.free_cells Own y i
  whence y i e = elim (ℕ_discrete x y) [
    | yes z ↦ inr (0, (sym z, refl), free_height (sym e ∙ ap cells_back (sym z) ∙ put_same own x (free H.free_cells)) ∙ sym (zero-add H.free_cells))
    | no ne ↦ inl (sym (put_other own x (free H.free_cells) y ne) ∙ e)
  ]

  gives_cell : GivenBack own cells_back (link m) (link m1) h.cells H.free_cells Own x 0
  gives_cell = record {
    front = (refl, refl);
    step = λ y j e. absurd (omega (arith, e.1));
    final = λ y e. ap (link m1) e.0 ∙ word_here m x cell_next h.cells.head (omega (arith, H.cells_fit, cell_low H x r s first_label));
    small = λ y j e. omega (arith, e.1);
    inj = λ y z j e d. e.0 ∙ sym d.0;
    frees = λ y i e. put_other own x (free H.free_cells) y (not_x was_free e) ∙ e;
    links = λ y i e. links_kept y (not_x was_free e);
    freshes = λ y e. put_other own x (free H.free_cells) y (not_x was_fresh e) ∙ e;
    joins = λ y j e. ap cells_back e.0 ∙ put_same own x (free H.free_cells) ∙ ap free (omega (arith, e.1));
    whence = whence;
  }

  left_cells : PoolOk cells_back (link m1) (headed h.cells x) (suc H.free_cells)
  left_cells = rw (zero-add H.free_cells) at (give_ok H.cell_pool gives_cell)

  used_region : NowBusy reg regions_back (first rs) (first rs1) r
  used_region = record {
    a = s;
    b = 0;
    here = put_same reg r (having s);
    labels = λ q ne. put_other reg r (having s) q (λ z. ne (sym z));
    links = λ q ne. unhang.firsts q ne;
  }

  -- ---- the rest
  back_inside : (y q k : ℕ) → cells_back y ≡ busy q k → (t : ℕ) × (regions_back q ≡ having t) × (k < t)
  back_inside y q k e = let d = was e in elim (ℕ_discrete r q) [
    | yes z ↦ (s, ap regions_back (sym z) ∙ put_same reg r (having s), lower d.0 (d.1 ∙ ap (λ n. busy n k) (sym z)))
    | no ne ↦ let i = H.inside y q k d.1 in (i.0, put_other reg r (having s) q ne ∙ i.1, i.2)
  ]

  back_step : (y q k : ℕ) → cells_back y ≡ busy q (suc k) → cells_back (link m1 y) ≡ busy q k
  back_step y q k e =
      let d = was e in
      ap cells_back (links_kept y d.0)
      ∙ busy_kept (H.step y q k d.1) (λ z w. omega (arith, lower d.0 (d.1 ∙ ap (λ n. busy n (suc k)) z)))

  ends_none : own x ≡ busy r 0 → h.cells.limit ≤ last rs1 r
  ends_none e = omega (arith, unhang.none fits (H.inj x (last rs r) r 0 e last_label))

  ends_some : (k : ℕ) → s ≡ suc k → (cells_back (first rs1 r) ≡ busy r k) × (cells_back (last rs1 r) ≡ busy r 0)
  ends_some k z = (
    ap cells_back (unhang.front fits) ∙ busy_kept (H.step x r k (first_label ∙ ap (busy r) z)) (λ d w. omega arith),
    ap cells_back (unhang.kept (λ w. omega (arith, busy_height (sym first_label ∙ ap own w ∙ last_label)))) ∙ busy_kept last_label (λ d w. omega arith),
  )

  ends_here : (t : ℕ) → s ≡ t → Ends cells_back h.cells.limit (first rs1 r) (last rs1 r) r t
  ends_here zero z = ends_none (first_label ∙ ap (busy r) z)
  ends_here (suc k) z = ends_some k z

  back_ends : (q t : ℕ) → regions_back q ≡ having t → Ends cells_back h.cells.limit (first rs1 q) (last rs1 q) q t
  back_ends q t e = elim (ℕ_discrete r q) [
    | yes z ↦ rw (← z) (ends_here t (having_size (sym (put_same reg r (having s)) ∙ ap regions_back z ∙ e)))
    | no ne ↦
        ends_kept own cells_back h.cells.limit (first rs q) (last rs q) (first rs1 q) (last rs1 q) q t
        (λ y k d. busy_kept d (λ z w. ne (sym z)))
        (unhang.firsts q (λ z. ne (sym z)))
        (unhang.lasts q (λ z. ne (sym z)))
        (H.ends q t (sym (put_other reg r (having s) q ne) ∙ e))
  ]

  pub unbuilds : Labelled (unbuilt h rs r) (unbuilt_cells h m rs r) (unbuilt_regions h m rs r) cells_back regions_back cells regions
  unfolding unbuilt unbuilt_cells unbuilt_regions
  unbuilds = record {
    free_cells = suc H.free_cells;
    free_regions = H.free_regions;
    cells_fit = rw length-set H.cells_fit;
    regions_fit = rw unhang.size H.regions_fit;
    cell_pool = left_cells;
    region_pool = stays_ok H.region_pool er used_region;
    cell_count = omega (arith, H.cell_count);
    region_count = H.region_count;
    inside = back_inside;
    step = back_step;
    inj = λ y z q k e d. H.inj y z q k (was e).1 (was d).1;
    ends = back_ends;
  }

-- functors and arguments stay
pub unbuild_words : (h : Heap) (m rs : List ℕ) (r y k : ℕ) → k < cell_next → cell_word (unbuilt_cells h m rs r) y k ≡ cell_word m y k
unfolding unbuilt_cells
unbuild_words h m rs r y k hk = word_beside m (first rs r) cell_next h.cells.head y k (λ e. omega arith) (omega arith) (omega arith)
