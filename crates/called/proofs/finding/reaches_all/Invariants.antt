use Prim.Native.Nat.{◌-◌}
use lib.ListN.{length}
use Rattle.language.specs.Answers.{program}
use Rattle.called.proofs.WorklistLaws.{Worklist}
use Rattle.called.proofs.finding.reaches_all.Given as goal

abbrev pub invariant-loop-k : goal.invariant-loop-k
invariant-loop-k l = Worklist l.file l.marks l.order l.k l.found

abbrev pub decreases-loop-k : goal.decreases-loop-k
decreases-loop-k l = length (program l.file).procedures - l.k
