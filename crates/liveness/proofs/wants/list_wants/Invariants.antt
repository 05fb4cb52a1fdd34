use Rattle.liveness.proofs.WantsLaws.{Copying}
use Rattle.liveness.proofs.wants.list_wants.Given as goal

abbrev pub invariant-loop-x : goal.invariant-loop-x
invariant-loop-x l = Copying l.own l.wants l.x
