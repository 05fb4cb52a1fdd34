-- The rest of the parameters against the rest of the arguments, from the images so far, gives the whole mapping.
use Prim.Native.Nat.{ℕ}
use mathlib.Core.Path.{refl, ◌∙◌}
use mathlib.Core.Logic.{inl, inr}
use mathlib.Core.List.{List}
use Rattle.chains.specs.Formed.{variables_at, variables_none, arguments_at, arguments_none}
use Rattle.chains.specs.Is.{chain_next}
use Rattle.regions.proofs.PairsLaws.{grown_refl, grown_trans, rest_first, rest_next, rest_stops, rest_ends}
use Rattle.regions.specs.CallMap.{homes_in}
use Rattle.regions.proofs.CallMapLaws.{regions_of_parameters, parameters_none, parameter_passed, parameter_here, argument_here, homes_none, rest_skips, call_mapped}
use Rattle.regions.proofs.calls.map_call.Goals as goal

pub loop-x-init : goal.loop-x-init
loop-x-init c =
    let f : List ℕ = c.args.file.now in (
      rw c.word_at-x.ensures c.requires.standing_2.variables,
      c.requires.stands,
      refl,
      grown_refl _,
      rest_first f _ _ (regions_of_parameters (variables_at f c.word_at-x.result)) (homes_in c.args.own.now (arguments_at f c.args.arguments)) _,
    )

pub returns-then-a-eq0 : goal.returns-then-a-eq0
returns-then-a-eq0 c = let f : List ℕ = c.args.file.now in record {
  grown = c.loop-x.invariant.3;
  call_mapped = call_mapped f _ _ c.args.arguments _ _ _ c.word_at-x.ensures
      (rest_ends f _ _ c.loop-x.invariant.4 (inr (homes_none c.args.own.now (arguments_none f c.if-a-eq0.true))));
}

pub returns-then-not-map_region : goal.returns-then-not-map_region
returns-then-not-map_region c = let f : List ℕ = c.args.file.now in let F = c.requires.formed in let k = c.loop-x.invariant in let z = c.loop-x-test.true in let n = c.word-next.ensures.0 in let rs = parameter_here f _ F k.0 z c.word.ensures.0 c.if-word-ne0.true n c.word-r.ensures.0 in let us = argument_here f c.args.own.now _ F k.1 c.if-a-eq0.false c.word-then-word-ne0.ensures.0 c.home-u.ensures refl in record {
  grown = grown_trans k.3 c.map_region.ensures.grown;
  call_mapped = call_mapped f _ _ c.args.arguments _ _ _ c.word_at-x.ensures
      (rest_stops f _ _ k.4 _ rs us c.map_region.ensures.region_mapped c.if-not-map_region.true);
}

pub loop-x-smaller-else-not-map_region : goal.loop-x-smaller-else-not-map_region
loop-x-smaller-else-not-map_region c =
    (chain_next c.requires.formed c.loop-x.invariant.0 c.loop-x-test.true c.word-next.ensures.0).falls

pub loop-x-preserved-else-not-map_region : goal.loop-x-preserved-else-not-map_region
loop-x-preserved-else-not-map_region c =
    let f : List ℕ = c.args.file.now in
    let F = c.requires.formed in
    let k = c.loop-x.invariant in
    let z = c.loop-x-test.true in
    let n = c.word-next.ensures.0 in
    let rs = parameter_here f _ F k.0 z c.word.ensures.0 c.if-word-ne0.true n c.word-r.ensures.0 in
    let us = argument_here f c.args.own.now _ F k.1 c.if-a-eq0.false c.word-then-word-ne0.ensures.0 c.home-u.ensures c.word-a.ensures.0 in
    let e = c.map_region.auto.images in (
      (chain_next F k.0 z n).stands,
      (chain_next F k.1 c.if-a-eq0.false c.word-a.ensures.0).stands,
      e ∙ k.2,
      grown_trans k.3 c.map_region.ensures.grown,
      rest_next f _ _ k.4 rs us c.map_region.ensures.region_mapped c.if-not-map_region.false e c.map_region.ensures.grown,
    )

pub loop-x-smaller : goal.loop-x-smaller
loop-x-smaller c =
    (chain_next c.requires.formed c.loop-x.invariant.0 c.loop-x-test.true c.word-next.ensures.0).falls

pub loop-x-preserved : goal.loop-x-preserved
loop-x-preserved c =
    let f : List ℕ = c.args.file.now in
    let F = c.requires.formed in
    let k = c.loop-x.invariant in
    let z = c.loop-x-test.true in
    let n = c.word-next.ensures.0 in
    ((chain_next F k.0 z n).stands, k.1, k.2, k.3, rest_skips f _ _ (parameter_passed f _ F k.0 z c.word.ensures.0 c.if-word-ne0.false n) k.4)

pub shape_of-images : goal.shape_of-images
shape_of-images c = c.loop-x.invariant.2

pub returns : goal.returns
returns c = let f : List ℕ = c.args.file.now in record {
  grown = c.loop-x.invariant.3;
  call_mapped = call_mapped f _ _ c.args.arguments _ _ _ c.word_at-x.ensures
      (rest_ends f _ _ c.loop-x.invariant.4 (inl (parameters_none (variables_none f c.loop-x-test.false))));
}
