-- The walk over goals: one law of Walking for each way through it. The records ahead fall.
use Prim.Native.Nat.{◌+◌, ◌*◌}
use Rattle.chains.specs.Formed.{ahead}
use Rattle.insertion.specs.Along.{LaidAlong, HasParts}
use Rattle.insertion.proofs.walk.+arms_attempt_branches_chain_goals_part_switch.Given as goal

abbrev pub decreases-arms : goal.decreases-arms
decreases-arms l =
    5 * ahead l.file.now.now l.i + 3

abbrev pub decreases-attempt : goal.decreases-attempt
decreases-attempt l =
    5 * ahead l.file.now.now l.i + 1

abbrev pub decreases-branches : goal.decreases-branches
decreases-branches l =
    5 * ahead l.file.now.now l.i + 1

abbrev pub decreases-chain : goal.decreases-chain
decreases-chain l =
    5 * ahead l.file.now.now l.start + 4

abbrev pub decreases-goals : goal.decreases-goals
decreases-goals l =
    5 * ahead l.file.now.now l.start + 3

abbrev pub invariant-goals-loop-i : goal.invariant-goals-loop-i
invariant-goals-loop-i l =
    LaidAlong l.file.now l.rows l.points l.start l.initial.at.point l.initial.out l.out l.initial.at.next l.i l.at.point l.at.next × HasParts l.file.now l.i

abbrev pub decreases-goals-loop-i : goal.decreases-goals-loop-i
decreases-goals-loop-i l =
    ahead l.file.now l.i

abbrev pub decreases-part : goal.decreases-part
decreases-part l =
    5 * ahead l.file.now.now l.start + 4

abbrev pub decreases-switch : goal.decreases-switch
decreases-switch l =
    5 * ahead l.file.now.now l.i + 1
