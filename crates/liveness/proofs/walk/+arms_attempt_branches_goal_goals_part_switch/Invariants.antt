-- The walk over goals: one law of Walking for each way through it. The records ahead fall.
use Rattle.language.specs.File.{word}
use Rattle.chains.specs.Formed.{ahead}
use Prim.Native.Nat.{◌+◌, ◌*◌}
use Rattle.liveness.proofs.walk.+arms_attempt_branches_goal_goals_part_switch.Given as goal

abbrev pub decreases-arms : goal.decreases-arms
decreases-arms l = 5 * ahead l.file.now.now l.i + 3

abbrev pub decreases-attempt : goal.decreases-attempt
decreases-attempt l = 5 * ahead l.file.now.now l.i + 1

abbrev pub decreases-branches : goal.decreases-branches
decreases-branches l = 5 * ahead l.file.now.now l.i + 1

abbrev pub decreases-goal : goal.decreases-goal
decreases-goal l = 5 * ahead l.file.now.now l.i + 2

abbrev pub decreases-goals : goal.decreases-goals
decreases-goals l = 5 * ahead l.file.now.now l.i + 3

abbrev pub decreases-part : goal.decreases-part
decreases-part l = 5 * ahead l.file.now.now (word l.file.now.now l.i l.k) + 4

abbrev pub decreases-switch : goal.decreases-switch
decreases-switch l = 5 * ahead l.file.now.now l.i + 1
