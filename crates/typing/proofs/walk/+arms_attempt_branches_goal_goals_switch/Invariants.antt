-- The walk over goals: a chain of goals, a goal, an if, a try, a switch, its arms. The records still ahead fall.
use Prim.Native.Nat.{◌<◌, ◌≤◌, ◌+◌, ◌*◌}
use mathlib.Core.Path.{◌≡◌}
use Rattle.language.specs.Format.{max_records}
use Rattle.language.specs.File.{functors, goals, arms}
use Rattle.language.specs.Answers.{program}
use Rattle.language.specs.Typing.{goals_ok, arms_ok}
use Rattle.chains.specs.Formed.{Stands, goals_at, arms_at, functors_at, ahead}
use Rattle.declarations.specs.Own.{declared}
use Rattle.typing.proofs.walk.+arms_attempt_branches_goal_goals_switch.Given as goal

-- The functions `past` lead from a point that several needs pass to the earlier points that these look at, so that a path stands once.
abbrev pub decreases-arms : goal.decreases-arms
decreases-arms l = 3 * ahead l.file.now l.first + 2

abbrev pub invariant-arms-loop-i : goal.invariant-arms-loop-i
invariant-arms-loop-i l = Stands l.file arms l.i × Stands l.file functors l.g × (ahead l.file l.i ≤ ahead l.file l.first) × (l.n + ahead l.file l.i < max_records) × (arms_ok (program l.file) (declared l.file l.own) (arms_at l.file l.i) (functors_at l.file l.g) l.n ≡ arms_ok (program l.file) (declared l.file l.own) (arms_at l.file l.first) (functors_at l.file l.start) 0)

abbrev pub decreases-arms-loop-i : goal.decreases-arms-loop-i
decreases-arms-loop-i l = ahead l.file l.i

abbrev pub decreases-attempt : goal.decreases-attempt
decreases-attempt l = 3 * ahead l.file.now l.i

abbrev pub decreases-branches : goal.decreases-branches
decreases-branches l = 3 * ahead l.file.now l.i

abbrev pub decreases-goal : goal.decreases-goal
decreases-goal l = 3 * ahead l.file.now l.i + 1

abbrev pub decreases-goals : goal.decreases-goals
decreases-goals l = 3 * ahead l.file.now l.start + 2

abbrev pub invariant-goals-loop-i : goal.invariant-goals-loop-i
invariant-goals-loop-i l = Stands l.file goals l.i × (ahead l.file l.i ≤ ahead l.file l.start) × (goals_ok (program l.file) (declared l.file l.own) (goals_at l.file l.i) ≡ goals_ok (program l.file) (declared l.file l.own) (goals_at l.file l.start))

abbrev pub decreases-goals-loop-i : goal.decreases-goals-loop-i
decreases-goals-loop-i l = ahead l.file l.i

abbrev pub decreases-switch : goal.decreases-switch
decreases-switch l = 3 * ahead l.file.now l.i
