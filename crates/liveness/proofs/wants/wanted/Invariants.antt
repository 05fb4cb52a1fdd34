-- A walk over the members.
use Rattle.sets.specs.Members.{members}
use Rattle.sets.specs.Gathering.{Gathered}
use Rattle.liveness.specs.Wants.{reached_in}
use Rattle.liveness.proofs.wants.wanted.Given as goal

abbrev pub invariant-loop-x : goal.invariant-loop-x
invariant-loop-x l = Gathered (reached_in l.wants) l.fn.live l.found (members l.x-iterator.left)
