-- A region is created: its place is labelled, the rest is as it was.
use Rattle.std.specs.Prelude.{ℕ, suc, ◌+◌, ◌*◌, ◌<◌, ◌≡◌, List, set, Option, Some, None}
use Rattle.std.proofs.Math.Path.{refl}
use Rattle.std.proofs.Common.{sym, ap, ◌∙◌, arith, length-set}
use Rattle.std.proofs.Math.Decide.{ℕ_discrete}
use Rattle.language.specs.Lists.{put}
use Rattle.laws.specs.Choices.{put_same, put_other}
use Rattle.memory.specs.declared.Pool.{Pool}
use Rattle.memory.specs.declared.Heap.{Heap}
use Rattle.memory.specs.Memory.{region_words, region_last, first, last, region_taken, created, created_of, created_regions, created_regions_of}
use Rattle.heap.specs.Labels.{having, Labels, Vacant, vacant_busy}
use Rattle.heap.specs.Pools.{Gave, Takes, full, gave, take_ok}
use Rattle.heap.specs.Words.{first_last, last_here, last_other}
use Rattle.heap.specs.Labelled.{Ends, Labelled, having_size, ends_kept}

module _ {h : Heap} {m rs : List ℕ} {own reg : Labels} {cells regions : ℕ} (H : Labelled h m rs own reg cells regions) where
  pub data LabelledCreates : Option (ℕ × Heap) → List ℕ → Type 0 where
    no_place : regions ≡ h.regions.limit → LabelledCreates None rs
    new_region : {r : ℕ} {h' : Heap} {rs' : List ℕ} → regions < h.regions.limit → Vacant (reg r) → h'.cells.limit ≡ h.cells.limit
        → h'.regions.limit ≡ h.regions.limit → Labelled h' m rs' own (put reg r (having 0)) cells (suc regions) → LabelledCreates (Some (r, h')) rs'

  module _ (r : ℕ) (p : Pool) (G : Gave reg (first rs) h.regions H.free_regions r p) where
    abbrev rs1 : List ℕ
    rs1 = set rs (region_words * r + region_last) h.cells.limit

    abbrev reg1 : Labels
    reg1 = put reg r (having 0)

    created_ends : (q s : ℕ) → reg1 q ≡ having s → Ends own h.cells.limit (first rs1 q) (last rs1 q) q s
    created_ends q s e = elim (ℕ_discrete r q) [
      | yes z ↦
          let s0 : s ≡ 0 = having_size (sym e ∙ ap reg1 (sym z) ∙ put_same reg r (having 0)) in
          rw (s0, ← z) (rw (last_here rs r h.cells.limit (omega (arith, H.regions_fit, G.low))) (omega arith))
      | no ne ↦
          ends_kept own own h.cells.limit (first rs q) (last rs q) (first rs1 q) (last rs1 q) q s (λ y k d. d)
          (first_last rs r h.cells.limit q)
          (last_other rs r h.cells.limit q (λ z. ne (sym z)))
          (H.ends q s (sym (put_other reg r (having 0) q ne) ∙ e))
    ]

    created_labelled : Labelled (record { cells = h.cells; regions = p }) m rs1 own reg1 cells (suc regions)
    created_labelled = record {
      free_cells = H.free_cells;
      free_regions = G.left;
      cells_fit = H.cells_fit;
      regions_fit = rw (G.same, length-set) H.regions_fit;
      cell_pool = H.cell_pool;
      region_pool = G.ok reg1 (first rs1) (record {
        a = 0;
        b = 0;
        here = put_same reg r (having 0);
        labels = λ y ne. put_other reg r (having 0) y (λ z. ne (sym z));
        links = λ y ne. first_last rs r h.cells.limit y;
      });
      cell_count = H.cell_count;
      region_count = omega (arith, H.region_count, G.count);
      inside = λ y q k e.
          let i = H.inside y q k e in
          (i.0, put_other reg r (having 0) q (λ z. vacant_busy G.vacant (ap reg z ∙ i.1)) ∙ i.1, i.2);
      step = H.step;
      inj = H.inj;
      ends = created_ends;
    }

  create_by : (t : Option (ℕ × Pool)) → Takes reg (first rs) h.regions H.free_regions t → LabelledCreates (created_of h t) (created_regions_of h rs t)
  unfolding created_of created_regions_of
  create_by None (full e d) = no_place (omega (arith, H.region_count))
  create_by (Some (r, p)) (gave G) =
      new_region (omega (arith, H.region_count, G.count, G.high)) G.vacant refl G.same (created_labelled r p G)

  pub creates : LabelledCreates (created h rs) (created_regions h rs)
  unfolding created created_regions
  creates = create_by (region_taken h rs) (take_ok H.free_regions H.region_pool)
