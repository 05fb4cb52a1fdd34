-- The walk over goals: one law of Walking for each way through it. The records ahead fall.
use Rattle.chains.specs.Formed.{ahead}
use Rattle.checking.proofs.Walking.{Walking}
use Prim.Native.Nat.{◌+◌, ◌*◌}
use Rattle.checking.proofs.walk.+arms_attempt_branches_goal_goals_switch.Given as goal

abbrev pub decreases-arms : goal.decreases-arms
decreases-arms l = 4 * ahead l.file.now l.i + 3

abbrev pub decreases-attempt : goal.decreases-attempt
decreases-attempt l = 4 * ahead l.file.now l.i + 1

abbrev pub decreases-branches : goal.decreases-branches
decreases-branches l = 4 * ahead l.file.now l.i + 1

abbrev pub decreases-goal : goal.decreases-goal
decreases-goal l = 4 * ahead l.file.now l.i + 2

abbrev pub decreases-goals : goal.decreases-goals
decreases-goals l = 4 * ahead l.file.now l.start + 3

abbrev pub invariant-goals-loop-i : goal.invariant-goals-loop-i
invariant-goals-loop-i l = Walking l.file l.rows l.own l.start l.fn.before l.carried l.i

abbrev pub decreases-goals-loop-i : goal.decreases-goals-loop-i
decreases-goals-loop-i l = ahead l.file l.i

abbrev pub decreases-switch : goal.decreases-switch
decreases-switch l = 4 * ahead l.file.now l.i + 1
