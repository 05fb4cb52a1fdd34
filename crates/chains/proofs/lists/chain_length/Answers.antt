-- The count so far and the rest of the chain make the whole.
use mathlib.Core.Path.{ap}
use Rattle.std.proofs.Common.{arith, rules}
use lib.ListN.{length}
use Rattle.chains.specs.Formed.{ahead_below}
use Rattle.chains.specs.Records.{records_none, records_step, next_onward}
use Rattle.chains.proofs.lists.chain_length.Goals as goal

pub loop-at-init : goal.loop-at-init
loop-at-init c = (c.requires.i_bound, omega (arith, ahead_below c.requires.formed c.args.i), omega arith)

pub word-at-requires : goal.word-at-requires
word-at-requires c = search rules

pub loop-at-smaller : goal.loop-at-smaller
loop-at-smaller c =
    (next_onward c.requires.formed c.loop-at-test.true c.loop-at.invariant.0 c.word-at.ensures.0).falls

pub loop-at-preserved : goal.loop-at-preserved
loop-at-preserved c =
    let o = next_onward c.requires.formed c.loop-at-test.true c.loop-at.invariant.0 c.word-at.ensures.0 in
    let s = records_step c.requires.formed c.loop-at-test.true c.loop-at.invariant.0 c.word-at.ensures.0 in
    (o.stands.below, omega arith, omega (arith, ap length s))

pub returns : goal.returns
returns c =
    omega (arith, ap length (records_none c.args.file.now c.loop-at-test.false))
