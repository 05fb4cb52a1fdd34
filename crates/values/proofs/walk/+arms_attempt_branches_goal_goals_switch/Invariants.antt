-- The walk over goals: one law of Along for each way through it. The records ahead fall.
use Prim.Native.Nat.{◌+◌, ◌*◌}
use Rattle.language.specs.Answers.{program}
use Rattle.chains.specs.Formed.{ahead}
use Rattle.walks.specs.Along.{WalkedAlong}
use Rattle.values.specs.Valuing.{valuer}
use Rattle.values.proofs.walk.+arms_attempt_branches_goal_goals_switch.Given as goal

-- The functions `past` lead from a point that several needs pass to the earlier points that these look at, so that a path stands once.
abbrev pub decreases-arms : goal.decreases-arms
decreases-arms l = 4 * ahead l.file.now l.i + 3

abbrev pub decreases-attempt : goal.decreases-attempt
decreases-attempt l = 4 * ahead l.file.now l.i + 1

abbrev pub decreases-branches : goal.decreases-branches
decreases-branches l = 4 * ahead l.file.now l.i + 1

abbrev pub decreases-goal : goal.decreases-goal
decreases-goal l = 4 * ahead l.file.now l.i + 2

abbrev pub decreases-goals : goal.decreases-goals
decreases-goals l = 4 * ahead l.file.now l.start + 3

abbrev pub invariant-goals-loop-i : goal.invariant-goals-loop-i
invariant-goals-loop-i l = WalkedAlong (valuer (program l.file)) l.file l.start l.fn.before l.i l.carried

abbrev pub decreases-goals-loop-i : goal.decreases-goals-loop-i
decreases-goals-loop-i l = ahead l.file l.i

abbrev pub decreases-switch : goal.decreases-switch
decreases-switch l = 4 * ahead l.file.now l.i + 1
