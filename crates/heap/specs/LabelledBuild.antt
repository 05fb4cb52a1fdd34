-- A cell is built in a region: it becomes the first of the region's cells.
use Rattle.std.specs.Prelude.{ℕ, zero, suc, ◌+◌, ◌*◌, ◌≤◌, ◌<◌, ◌≡◌, refl, List, ◌≢◌, length, Option, Some, None}
use Rattle.std.proofs.Common.{sym, ap, ◌∙◌, arith}
use Rattle.std.proofs.Math.Decide.{ℕ_discrete}
use Rattle.language.specs.Lists.{put}
use Rattle.laws.specs.Choices.{put_same, put_other}
use Rattle.memory.specs.declared.Contents.{Contents}
use Rattle.memory.specs.declared.Pool.{Pool}
use Rattle.memory.specs.declared.Heap.{Heap}
use Rattle.memory.specs.Memory.{cell_words, region_words, cell_next, cell_word, link, first, last, cell_taken, filled, hung, built, built_of, built_cells, built_cells_of, built_regions, built_regions_of}
use Rattle.heap.specs.Labels.{busy, having, Labels, Vacant, vacant_busy, busy_region, busy_height}
use Rattle.heap.specs.Pools.{NowBusy, Gave, Takes, full, gave, take_ok, stays_ok}
use Rattle.heap.specs.Words.{FilledCell, filled_length, filled_here, filled_other, HungCell, hung_ok}
use Rattle.heap.specs.Labelled.{Ends, Labelled, having_size, ends_kept, cell_low, region_low, height_low}

-- region r has s cells; the new one is to hold c
module _ {h : Heap} {m rs : List ℕ} {own reg : Labels} {cells regions : ℕ} (H : Labelled h m rs own reg cells regions) (r s : ℕ)
    (er : reg r ≡ having s) (c : Contents) where
  abbrev reg1 : Labels
  reg1 = put reg r (having (suc s))

  pub data LabelledBuilds : Option (ℕ × Heap) → List ℕ → List ℕ → Type 0 where
    no_place : cells ≡ h.cells.limit → LabelledBuilds None m rs
    new_cell : {x : ℕ} {h' : Heap} {m' rs' : List ℕ} → cells < h.cells.limit → Vacant (own x) → h'.cells.limit ≡ h.cells.limit
        → h'.regions.limit ≡ h.regions.limit → FilledCell m' x c (first rs r)
        → ((y k : ℕ) → k < cell_words → y ≢ x → cell_word m' y k ≡ cell_word m y k)
        → Labelled h' m' rs' (put own x (busy r s)) reg1 (suc cells) regions → LabelledBuilds (Some (x, h')) m' rs'

  module _ (x : ℕ) (p : Pool) (G : Gave own (link m) h.cells H.free_cells x p) where
    abbrev m1 : List ℕ
    m1 = filled m x c (first rs r)

    abbrev rs1 : List ℕ
    rs1 = hung rs r x h.cells.limit

    abbrev own1 : Labels
    own1 = put own x (busy r s)

    hang : HungCell rs r x h.cells.limit rs1
    hang = hung_ok rs r x h.cells.limit

    new : FilledCell m1 x c (first rs r)
    new = filled_here m x c (first rs r) (omega (arith, H.cells_fit, G.low))

    others : (y k : ℕ) → k < cell_words → y ≢ x → cell_word m1 y k ≡ cell_word m y k
    others = filled_other m x c (first rs r)

    fits : region_words * r + region_words ≤ length rs
    fits = omega (arith, H.regions_fit, region_low H r s er)

    -- busy cells stay what they were, and region r alone grows
    old : (y q k : ℕ) → own y ≡ busy q k → own1 y ≡ busy q k
    old y q k e = put_other own x (busy r s) y (λ z. vacant_busy G.vacant (ap own z ∙ e)) ∙ e

    was : {y q k : ℕ} → x ≢ y → own1 y ≡ busy q k → own y ≡ busy q k
    was {y} ne e = sym (put_other own x (busy r s) y ne) ∙ e

    -- the new cell's label
    label : {y q k : ℕ} → x ≡ y → own1 y ≡ busy q k → busy r s ≡ busy q k
    label z e = sym (put_same own x (busy r s)) ∙ ap own1 z ∙ e

    grown : (q k : ℕ) → r ≡ q → k < suc s → (t : ℕ) × (reg1 q ≡ having t) × (k < t)
    grown q k z l = (suc s, ap reg1 (sym z) ∙ put_same reg r (having (suc s)), l)

    inside_old : (y q k : ℕ) → own y ≡ busy q k → (t : ℕ) × (reg1 q ≡ having t) × (k < t)
    inside_old y q k e = elim (ℕ_discrete r q) [
      | yes z ↦ grown q k z (omega (arith, height_low H y q k s e (ap reg (sym z) ∙ er)))
      | no ne ↦ let i = H.inside y q k e in (i.0, put_other reg r (having (suc s)) q ne ∙ i.1, i.2)
    ]

    built_inside : (y q k : ℕ) → own1 y ≡ busy q k → (t : ℕ) × (reg1 q ≡ having t) × (k < t)
    built_inside y q k e = elim (ℕ_discrete x y) [
      | yes z ↦ grown q k (busy_region (label z e)) (omega (arith, busy_height (label z e)))
      | no ne ↦ inside_old y q k (was ne e)
    ]

    -- what was the first cell stands behind the new one
    front_label : (k s : ℕ) → s ≡ suc k → Ends own h.cells.limit (first rs r) (last rs r) r s → own (first rs r) ≡ busy r k
    front_label k zero e E = absurd (omega arith)
    front_label k (suc j) e E = E.0 ∙ ap (busy r) (omega arith)

    step_new : (q k : ℕ) → busy r s ≡ busy q (suc k) → own1 (link m1 x) ≡ busy q k
    step_new q k e =
        let front = front_label k s (busy_height e) (H.ends r s er) ∙ ap (λ n. busy n k) (busy_region e) in
        ap own1 new.next ∙ old (first rs r) q k front

    built_step : (y q k : ℕ) → own1 y ≡ busy q (suc k) → own1 (link m1 y) ≡ busy q k
    built_step y q k e = elim (ℕ_discrete x y) [
      | yes z ↦ ap (λ n. own1 (link m1 n)) (sym z) ∙ step_new q k (label z e)
      | no ne ↦ ap own1 (others y cell_next (omega arith) (λ z. ne (sym z))) ∙ old (link m y) q k (H.step y q k (was ne e))
    ]

    -- no cell had the new one's height
    alone : (y : ℕ) → own y ≡ busy r s → ⊥
    alone y e = omega (arith, height_low H y r s s e er)

    built_inj : (y z q k : ℕ) → own1 y ≡ busy q k → own1 z ≡ busy q k → y ≡ z
    built_inj y z q k e g = elim (ℕ_discrete x y) [
      | yes u ↦ elim (ℕ_discrete x z) [ yes v ↦ sym u ∙ v | no nv ↦ absurd (alone z (was nv g ∙ sym (label u e))) ]
      | no nu ↦ elim (ℕ_discrete x z) [ yes v ↦ absurd (alone y (was nu e ∙ sym (label v g))) | no nv ↦ H.inj y z q k (was nu e) (was nv g) ]
    ]

    last_label : (s : ℕ) → own1 x ≡ busy r s → Ends own h.cells.limit (first rs r) (last rs r) r s → own1 (last rs1 r) ≡ busy r 0
    last_label zero e E = ap own1 (hang.only fits E) ∙ e
    last_label (suc k) e E = ap own1 (hang.kept (cell_low H (last rs r) r 0 E.1)) ∙ old (last rs r) r 0 E.1

    ends_new : (t : ℕ) → t ≡ suc s → Ends own1 h.cells.limit (first rs1 r) (last rs1 r) r t
    ends_new t e =
        rw e (ap own1 (hang.front fits) ∙ put_same own x (busy r s), last_label s (put_same own x (busy r s)) (H.ends r s er))

    built_ends : (q t : ℕ) → reg1 q ≡ having t → Ends own1 h.cells.limit (first rs1 q) (last rs1 q) q t
    built_ends q t e = elim (ℕ_discrete r q) [
      | yes z ↦ rw (← z) (ends_new t (having_size (sym e ∙ ap reg1 (sym z) ∙ put_same reg r (having (suc s)))))
      | no ne ↦
          ends_kept own own1 h.cells.limit (first rs q) (last rs q) (first rs1 q) (last rs1 q) q t (λ y k. old y q k)
          (hang.firsts q (λ z. ne (sym z)))
          (hang.lasts q (λ z. ne (sym z)))
          (H.ends q t (sym (put_other reg r (having (suc s)) q ne) ∙ e))
    ]

    used_cell : NowBusy own own1 (link m) (link m1) x
    used_cell = record {
      a = r;
      b = s;
      here = put_same own x (busy r s);
      labels = λ y ne. put_other own x (busy r s) y (λ z. ne (sym z));
      links = λ y ne. others y cell_next (omega arith) ne;
    }

    used_region : NowBusy reg reg1 (first rs) (first rs1) r
    used_region = record {
      a = suc s;
      b = 0;
      here = put_same reg r (having (suc s));
      labels = λ q ne. put_other reg r (having (suc s)) q (λ z. ne (sym z));
      links = λ q ne. hang.firsts q ne;
    }

    built_labelled : Labelled (record { cells = p; regions = h.regions }) m1 rs1 own1 reg1 (suc cells) regions
    built_labelled = record {
      free_cells = G.left;
      free_regions = H.free_regions;
      cells_fit = rw (G.same, filled_length m x c (first rs r)) H.cells_fit;
      regions_fit = rw hang.size H.regions_fit;
      cell_pool = G.ok own1 (link m1) used_cell;
      region_pool = stays_ok H.region_pool er used_region;
      cell_count = omega (arith, H.cell_count, G.count);
      region_count = H.region_count;
      inside = built_inside;
      step = built_step;
      inj = built_inj;
      ends = rw G.same built_ends;
    }

    new_built : LabelledBuilds (Some (x, record { cells = p; regions = h.regions })) m1 rs1
    new_built = new_cell (omega (arith, H.cell_count, G.count, G.high)) G.vacant G.same refl new others built_labelled

  build_by : (t : Option (ℕ × Pool)) → Takes own (link m) h.cells H.free_cells t
      → LabelledBuilds (built_of h t) (built_cells_of m rs r c t) (built_regions_of h rs r t)
  unfolding built_of built_cells_of built_regions_of
  build_by None (full e g) = no_place (omega (arith, H.cell_count))
  build_by (Some (x, p)) (gave G) = new_built x p G

  pub builds : LabelledBuilds (built h m) (built_cells h m rs r c) (built_regions h m rs r)
  unfolding built built_cells built_regions
  builds = build_by (cell_taken h m) (take_ok H.free_cells H.cell_pool)
