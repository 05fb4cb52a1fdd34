-- The arms that are not looked at yet decide.
use mathlib.Core.Path.{◌∙◌}
use Rattle.chains.specs.Formed.{edges_at}
use Rattle.chains.specs.Is.{chain_next}
use Rattle.regions.proofs.HereLaws.{arms_stop, arms_on, arms_last}
use Rattle.regions.proofs.single.arms_ok.Goals as goal

pub returns-then-not-in_targets : goal.returns-then-not-in_targets
returns-then-not-in_targets c = record {
  value = arms_stop c.args.file.now c.args.own.now (edges_at c.args.file.now c.args.edges) _ c.requires.formed c.loop-a.invariant.1 c.loop-a-test.true c.in_targets.ensures.value c.if-not-in_targets.true
      ∙ c.loop-a.invariant.2;
  firsts_2 = c.in_targets.ensures.firsts_2;
}

pub loop-a-smaller : goal.loop-a-smaller
loop-a-smaller c =
    (chain_next c.requires.formed c.loop-a.invariant.1 c.loop-a-test.true c.word-a.ensures.0).falls

pub loop-a-preserved : goal.loop-a-preserved
loop-a-preserved c =
    let z = c.loop-a-test.true in (
      c.in_targets.ensures.firsts_2,
      (chain_next c.requires.formed c.loop-a.invariant.1 z c.word-a.ensures.0).stands,
      arms_on c.args.file.now c.args.own.now (edges_at c.args.file.now c.args.edges) _ c.requires.formed c.loop-a.invariant.1 z c.in_targets.ensures.value c.if-not-in_targets.false c.word-a.ensures.0
          ∙ c.loop-a.invariant.2,
    )

pub returns : goal.returns
returns c = record {
  value = arms_last c.args.file.now c.args.own.now (edges_at c.args.file.now c.args.edges) c.loop-a-test.false ∙ c.loop-a.invariant.2;
  firsts_2 = c.loop-a.invariant.0;
}
