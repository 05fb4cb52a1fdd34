-- The arguments that are not looked at yet decide.
use Prim.Native.Nat.{ℕ}
use Rattle.std.proofs.Common.{arith}
use mathlib.Core.List.{List}
use mathlib.Core.Path.{refl, ◌∙◌}
use Rattle.chains.specs.Formed.{edges_at}
use Rattle.regions.proofs.TermsLaws.{rest_stop, rest_on, rest_end, terms_decided}
use Rattle.regions.proofs.terms.in_targets.Goals as goal

pub loop-k-init : goal.loop-k-init
loop-k-init c = (omega arith, refl)

pub returns-then-r-target_for : goal.returns-then-r-target_for
returns-then-r-target_for c = let f : List ℕ = c.args.file.now in record {
  value = terms_decided f c.args.own.now c.args.start c.first_edge-first.result c.args.i c.count_arguments-n.result c.word-functor.ensures.0 c.first_edge-first.ensures.first_edge.same c.count_arguments-n.ensures.i_value _
      (rest_stop f _ (edges_at f c.first_edge-first.result) _ _ _ c.loop-k-test.true c.word.ensures.0 c.home-r.ensures c.target_for.ensures c.if-r-target_for.true)
      c.loop-k.invariant.1;
  firsts_2 = c.first_edge-first.ensures.firsts_2;
}

pub loop-k-preserved : goal.loop-k-preserved
loop-k-preserved c =
    let f : List ℕ = c.args.file.now in (
      omega arith,
      rest_on f _ (edges_at f c.first_edge-first.result) _ _ _ c.loop-k-test.true c.word.ensures.0 c.home-r.ensures c.target_for.ensures c.if-r-target_for.false
          ∙ c.loop-k.invariant.1,
    )

pub returns : goal.returns
returns c = let f : List ℕ = c.args.file.now in record {
  value = terms_decided f c.args.own.now c.args.start c.first_edge-first.result c.args.i c.count_arguments-n.result c.word-functor.ensures.0 c.first_edge-first.ensures.first_edge.same c.count_arguments-n.ensures.i_value _
      (rest_end f c.args.own.now (edges_at f c.first_edge-first.result) c.word-functor.result c.args.i c.count_arguments-n.result c.loop-k-test.false) c.loop-k.invariant.1;
  firsts_2 = c.first_edge-first.ensures.firsts_2;
}
