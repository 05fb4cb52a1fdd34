use Rattle.machine.proofs.CallsLaws.{marked_as}
use Rattle.machine.proofs.calls.mark.Goals as goal

pub returns : goal.returns
returns c = marked_as _ _ _ _ _ _ c.store.ensures c.store-2.ensures
