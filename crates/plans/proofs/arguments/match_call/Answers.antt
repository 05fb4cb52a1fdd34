-- The rest of the variables and arguments gives the whole.
use Rattle.std.proofs.Common.{arith}
use Rattle.chains.specs.Formed.{counted}
use Rattle.chains.specs.Is.{chain_next}
use Rattle.plans.specs.Arguments.{walk_first, walk_ends, walk_stops, walk_skips, walk_matches}
use Rattle.plans.proofs.arguments.match_call.Goals as goal

pub loop-x-init : goal.loop-x-init
loop-x-init c =
    walk_first _ (rw c.word_at-x.ensures c.requires.stands) c.requires.stands_2

pub overflow_add-k : goal.overflow_add-k
overflow_add-k c =
    let W = c.loop-x.invariant in
    omega (arith, W.number c.loop-x-test.true, W.variable.below, (counted c.requires.formed).most)

pub returns-then-a-eq0 : goal.returns-then-a-eq0
returns-then-a-eq0 c = walk_stops c.loop-x.invariant c.if-a-eq0.true c.word_at-x.ensures

pub put_match-requires : goal.put_match-requires
put_match-requires c =
    let W = c.loop-x.invariant in
    omega (arith, W.argument.below, (counted c.requires.formed).most)

pub loop-x-smaller-else-a-eq0 : goal.loop-x-smaller-else-a-eq0
loop-x-smaller-else-a-eq0 c =
    (chain_next c.requires.formed c.loop-x.invariant.variable c.loop-x-test.true c.word-next.ensures.0).falls

pub loop-x-preserved-else-a-eq0 : goal.loop-x-preserved-else-a-eq0
loop-x-preserved-else-a-eq0 c =
    walk_matches c.loop-x.invariant c.requires.formed c.loop-x-test.true c.word-next.ensures.0 c.word-mode.ensures.0 c.if-mode-ne0.true c.if-a-eq0.false c.word-a.ensures.0 c.put_match.ensures

pub loop-x-smaller : goal.loop-x-smaller
loop-x-smaller c =
    (chain_next c.requires.formed c.loop-x.invariant.variable c.loop-x-test.true c.word-next.ensures.0).falls

pub loop-x-preserved : goal.loop-x-preserved
loop-x-preserved c =
    walk_skips c.loop-x.invariant c.requires.formed c.loop-x-test.true c.word-next.ensures.0 c.word-mode.ensures.0 c.if-mode-ne0.false

pub returns : goal.returns
returns c = walk_ends c.loop-x.invariant c.loop-x-test.false c.word_at-x.ensures
