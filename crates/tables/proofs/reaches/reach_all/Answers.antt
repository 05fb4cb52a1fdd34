-- What the variables met so far reach, with what those left do, is the whole.
use Rattle.sets.specs.Gathering.{gathered_first, gathered_more, gathered_last}
use Rattle.tables.proofs.reaches.reach_all.Goals as goal

pub loop-x-init : goal.loop-x-init
loop-x-init c = gathered_first _ _ (rw c.into_iter-x-iterator.ensures.into_iter_gives c.members-x-items.ensures)

pub loop-x-preserved : goal.loop-x-preserved
loop-x-preserved c = gathered_more _ _ c.loop-x.invariant c.in-Some.ensures.steps c.reach.ensures c.union-found.ensures

pub returns : goal.returns
returns c = gathered_last _ _ c.loop-x.invariant c.in-None.ensures.steps.0
