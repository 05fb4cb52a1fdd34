-- Invariant: the counts looked at and those still ahead decide. Assumes nothing.
use Rattle.records.proofs.Loops.{Once}
use Rattle.records.proofs.form.all_once.Given as goal

abbrev pub invariant-loop-j : goal.invariant-loop-j
invariant-loop-j l = Once l.seen l.n l.once l.j
