use Rattle.chains.specs.Formed.{ahead}
use Rattle.insertion.specs.Along.{LaidAlong}
use Rattle.insertion.proofs.step.steps.Given as goal

abbrev pub invariant-loop-i : goal.invariant-loop-i
invariant-loop-i l =
    LaidAlong l.file.now l.rows l.points l.start l.initial.at.point l.initial.out l.out l.initial.at.next l.i l.at.point l.at.next

abbrev pub decreases-loop-i : goal.decreases-loop-i
decreases-loop-i l = ahead l.file.now l.i
