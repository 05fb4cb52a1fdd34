-- The laws of the table of images are in Pairs; the places without an image fall in number.
use Prim.Native.Nat.{ℕ}
use mathlib.Core.Path.{refl, ◌∙◌}
use mathlib.Core.Logic.{inl, inr}
use mathlib.Core.List.{List}
use Rattle.std.proofs.Common.{arith, rules}
use lib.ListN.{length-set}
use Rattle.chains.specs.Is.{chain_next}
use Rattle.chains.specs.Edges.{targets_end, targets_here}
use Rattle.regions.proofs.PairsLaws.{edges_stand, PairMapped, pair_mapped, pair_known, zeros_grown, zeros_set, grown_refl, grown_trans, grown_set, rest_next, rest_stops, rest_ends, region_none, region_again, region_new}
use Rattle.regions.proofs.pairs.+map_edges_map_region.Goals as goal
use Rattle.regions.proofs.pairs.+map_edges_map_region.Goals.{map_edges-else-entry-u, map_edges-then-entry-u+else-not-map_region}

pub map_edges-returns-then-j-eq0 : goal.map_edges-returns-then-j-eq0
map_edges-returns-then-j-eq0 t c = let f : List ℕ = c.args.file.now in record {
  grown = c.loop-i.invariant.3;
  edges_mapped = rest_ends f _ _ c.loop-i.invariant.4 (inr (targets_end f c.if-j-eq0.true));
}

pub map_edges-map_region-requires : goal.map_edges-map_region-requires
map_edges-map_region-requires t c =
    (omega (arith, zeros_grown c.loop-i.invariant.2 c.loop-i.invariant.3, c.decreases), (c.requires.formed, (c.requires.standing, c.requires.standing_2)))

pub map_edges-returns-then-not-map_region : goal.map_edges-returns-then-not-map_region
map_edges-returns-then-not-map_region t c = let f : List ℕ = c.args.file.now in let k = c.loop-i.invariant in let rs = targets_here f c.loop-i.i c.requires.formed k.0 c.loop-i-test.true c.word-r.ensures.0 refl in let us = targets_here f c.loop-i.j c.requires.formed k.1 c.if-j-eq0.false c.word-u.ensures.0 refl in record {
  grown = grown_trans k.3 c.map_region.ensures.grown;
  edges_mapped = rest_stops f _ _ k.4 _ rs us c.map_region.ensures.region_mapped c.if-not-map_region.true;
}

pub map_edges-loop-i-smaller : goal.map_edges-loop-i-smaller
map_edges-loop-i-smaller t c =
    (chain_next c.requires.formed c.loop-i.invariant.0 c.loop-i-test.true c.word-i.ensures.0).falls

pub map_edges-loop-i-preserved : goal.map_edges-loop-i-preserved
map_edges-loop-i-preserved t c =
    let f : List ℕ = c.args.file.now in
    let F = c.requires.formed in
    let k = c.loop-i.invariant in
    let i = c.loop-i-test.true in
    let j = c.if-j-eq0.false in
    let rs = targets_here f c.loop-i.i F k.0 i c.word-r.ensures.0 c.word-i.ensures.0 in
    let us = targets_here f c.loop-i.j F k.1 j c.word-u.ensures.0 c.word-j.ensures.0 in
    let p : PairMapped f c.args.own.now c.args.callee.now c.word-r.result c.word-u.result c.loop-i.images c.if-entry-u.images =
    (elim c.if-entry-u.branch [ map_edges-then-entry-u+else-not-map_region w ↦ pair_mapped f _ _ _ _ _ w.map_region.ensures.region_mapped w.if-not-map_region.false w.map_region.auto.images w.map_region.ensures.grown w.images-is | map_edges-else-entry-u w ↦ pair_known f _ _ _ _ _ c.entry.ensures w.if-entry-u.false w.images-is ])
    in (
      (chain_next F k.0 i c.word-i.ensures.0).stands,
      (chain_next F k.1 j c.word-j.ensures.0).stands,
      p.length_kept ∙ k.2,
      grown_trans k.3 p.grown,
      rest_next f _ _ k.4 rs us p.mapped refl p.length_kept p.grown,
    )

pub map_edges-shape_of-images : goal.map_edges-shape_of-images
map_edges-shape_of-images t c = c.loop-i.invariant.2

pub map_edges-returns : goal.map_edges-returns
map_edges-returns t c = let f : List ℕ = c.args.file.now in record {
  grown = c.loop-i.invariant.3;
  edges_mapped = rest_ends f _ _ c.loop-i.invariant.4 (inl (targets_end f c.loop-i-test.false));
}

pub map_region-returns-then-not-is_pair : goal.map_region-returns-then-not-is_pair
map_region-returns-then-not-is_pair t c = record {
  grown = grown_refl _;
  region_mapped = region_none c.args.file.now _ _ c.args.r c.args.u _ (c.is_pair.ensures.1 c.if-not-is_pair.true);
}

pub map_region-offset_bounds-images-r : goal.map_region-offset_bounds-images-r
map_region-offset_bounds-images-r t c = let l = (c.is_pair.ensures.0 c.if-not-is_pair.false).2 in search rules

pub map_region-bounds-images-r : goal.map_region-bounds-images-r
map_region-bounds-images-r t c = let l = (c.is_pair.ensures.0 c.if-not-is_pair.false).2 in search rules

pub map_region-returns-then-v-ne0 : goal.map_region-returns-then-v-ne0
map_region-returns-then-v-ne0 t c = let q = c.is_pair.ensures.0 c.if-not-is_pair.false in record {
  grown = grown_refl _;
  region_mapped = region_again c.args.file.now _ _ c.args.r c.args.u c.args.images.now q.0 refl c.if-v-ne0.true refl;
}

pub map_region-offset_bounds-images-r-2 : goal.map_region-offset_bounds-images-r-2
map_region-offset_bounds-images-r-2 t c = let l = (c.is_pair.ensures.0 c.if-not-is_pair.false).2 in search rules

pub map_region-bounds-images-r-2 : goal.map_region-bounds-images-r-2
map_region-bounds-images-r-2 t c = let l = (c.is_pair.ensures.0 c.if-not-is_pair.false).2 in search rules

pub map_region-map_edges-requires : goal.map_region-map_edges-requires
map_region-map_edges-requires t c =
    let q = c.is_pair.ensures.0 c.if-not-is_pair.false in
    let z = zeros_set c.args.images.now c.args.r c.args.u q.2 c.if-v-ne0.false q.1 in (
      omega (arith, z, c.decreases),
      (
        c.requires.formed,
        (
          c.requires.standing,
          (
            c.requires.standing_2,
            (
              edges_stand c.args.file.now c.args.callee.now c.args.r c.edges-i.ensures c.requires.standing_2,
              edges_stand c.args.file.now c.args.own.now c.args.u c.edges-j.ensures c.requires.standing,
            ),
          ),
        ),
      ),
    )

pub map_region-shape_of-images : goal.map_region-shape_of-images
map_region-shape_of-images t c =
    c.map_edges.auto.images ∙ length-set c.args.images.now c.args.r c.args.u

pub map_region-returns : goal.map_region-returns
map_region-returns t c = let t : List ℕ = c.args.images.now in let q = c.is_pair.ensures.0 c.if-not-is_pair.false in let z = c.if-v-ne0.false in record {
  grown = grown_trans (grown_set t c.args.r c.args.u q.0 z) c.map_edges.ensures.grown;
  region_mapped = region_new c.args.file.now _ _ c.args.r c.args.u t _ _ q.0 q.1 q.2 z c.edges-i.ensures c.edges-j.ensures c.map_edges.ensures.edges_mapped;
}
