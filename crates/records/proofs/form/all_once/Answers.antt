-- Invariant: the counts looked at and those still ahead decide. Assumes nothing.
use Rattle.std.proofs.Common.{arith}
use Rattle.records.proofs.Loops.{once_first, once_next, once_last}
use Rattle.records.proofs.form.all_once.Goals as goal

pub loop-j-init : goal.loop-j-init
loop-j-init c = once_first _ _

pub loop-j-preserved : goal.loop-j-preserved
loop-j-preserved c = once_next _ _ c.loop-j.invariant (omega arith)

pub returns : goal.returns
returns c = once_last _ _ c.loop-j.invariant (omega arith)
