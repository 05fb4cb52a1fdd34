-- What is gathered so far and what the parameters left would take make the whole.
use Rattle.accesses.proofs.Turning.{going_first, going_short, going_last, going_next}
use Rattle.accesses.proofs.calls.match_arguments.Goals as goal

pub loop-x-init : goal.loop-x-init
loop-x-init c = going_first c.requires.stands c.no_access-a.ensures c.union-both.ensures (rw c.into_iter-x-iterator.ensures.into_iter_gives c.members-x-items.ensures)

pub returns-then-y-eq0 : goal.returns-then-y-eq0
returns-then-y-eq0 c = going_short c.loop-x.invariant c.if-y-eq0.true

pub loop-x-preserved : goal.loop-x-preserved
loop-x-preserved c =
    going_next c.loop-x.invariant c.requires.formed c.if-y-eq0.false c.in-Some.ensures.steps c.word.ensures.0 c.pass-a.ensures c.word-y.ensures.0

pub returns : goal.returns
returns c = going_last c.loop-x.invariant c.in-None.ensures.steps.0
