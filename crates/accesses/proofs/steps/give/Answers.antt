use Rattle.accesses.proofs.GatheringLaws.{given_is}
use Rattle.accesses.proofs.steps.give.Goals as goal

pub returns : goal.returns
returns c = given_is _ _ c.has-again.ensures c.of.ensures c.union.ensures
