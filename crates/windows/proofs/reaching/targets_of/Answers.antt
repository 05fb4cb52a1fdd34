-- What is found so far with what the rest leads to is the whole.
use Rattle.sets.specs.SetLaws.{empty_union}
use Rattle.chains.specs.Is.{chain_next}
use Rattle.chains.specs.Edges.{targets_end, targets_here}
use Rattle.windows.specs.Targets.{targets_none, targets_more}
use Rattle.windows.proofs.reaching.targets_of.Goals as goal

pub loop-i-init : goal.loop-i-init
loop-i-init c = (c.requires.stands, empty_union _)

pub loop-i-smaller : goal.loop-i-smaller
loop-i-smaller c =
    (chain_next c.requires.formed c.loop-i.invariant.0 c.loop-i-test.true c.word-i.ensures.0).falls

pub loop-i-preserved : goal.loop-i-preserved
loop-i-preserved c =
    let e = targets_here c.args.file.now _ c.requires.formed c.loop-i.invariant.0 c.loop-i-test.true c.word.ensures.0 c.word-i.ensures.0 in (
      (chain_next c.requires.formed c.loop-i.invariant.0 c.loop-i-test.true c.word-i.ensures.0).stands,
      targets_more c.loop-i.found e c.of.ensures c.union-found.ensures c.loop-i.invariant.1,
    )

pub returns : goal.returns
returns c =
    targets_none (targets_end c.args.file.now c.loop-i-test.false) c.loop-i.invariant.1
