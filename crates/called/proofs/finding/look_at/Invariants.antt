use Rattle.called.proofs.WorklistLaws.{Looking}
use Rattle.called.proofs.finding.look_at.Given as goal

abbrev pub invariant-loop-i : goal.invariant-loop-i
invariant-loop-i l = Looking l.file l.p l.i l.initial.marks l.initial.order l.n l.marks l.order l.found

abbrev pub decreases-loop-i : goal.decreases-loop-i
decreases-loop-i l = l.i
