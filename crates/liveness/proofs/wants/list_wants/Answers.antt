use Rattle.liveness.proofs.WantsLaws.{copying_first, copying_next, copying_last}
use Rattle.std.proofs.Common.{rules}
use Rattle.liveness.proofs.wants.list_wants.Goals as goal

pub loop-x-init : goal.loop-x-init
loop-x-init c = search (copying_first, rules)

pub loop-x-preserved : goal.loop-x-preserved
loop-x-preserved c = search (copying_next, rules)

pub returns : goal.returns
returns c = search (copying_last, rules)
