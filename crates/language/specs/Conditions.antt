-- Number 2, once a file is read: "Conditions hold no call, print, if or try; tests stand only in conditions; otherwise 2" (C-20).
-- A condition is everything below a try's w2, arms of a switch in it too: `inside` says whether goals stand in one.
use Rattle.std.specs.Prelude.{Bool, true, false}
use Rattle.sets.specs.Tests.{◌&◌, neg}
use Rattle.language.specs.Lists.{all}
use Rattle.language.specs.Program.{Step, literal, sum, assign, construct, call, print, create, remove, test, Goals, done, ◌then◌, Goal, step, switch, if_less, try, Arms, no_arms, arm, Program}

unfoldable pub step_stands : Bool → Step → Bool
step_stands inside (literal x v) = true
step_stands inside (sum x o y z) = true
step_stands inside (assign x y) = true
step_stands inside (construct x f ys) = true
step_stands inside (call q ys) = neg inside
step_stands inside (print y) = neg inside
step_stands inside (create r) = true
step_stands inside (remove r) = true
step_stands inside (test y z) = inside

unfoldable mutual
  pub goals_stand : Bool → Goals → Bool
  goals_stand inside done = true
  goals_stand inside (g then gs) = goal_stands inside g & goals_stand inside gs

  pub goal_stands : Bool → Goal → Bool
  goal_stands inside (step g) = step_stands inside g
  goal_stands inside (switch x cs) = arms_stand inside cs
  goal_stands inside (if_less y z a b) = neg inside & goals_stand inside a & goals_stand inside b
  goal_stands inside (try c a b) = neg inside & goals_stand true c & goals_stand inside a & goals_stand inside b

  pub arms_stand : Bool → Arms → Bool
  arms_stand inside no_arms = true
  arms_stand inside (arm f ys gs cs) = goals_stand inside gs & arms_stand inside cs

unfoldable pub conditions_ok : Program → Bool
conditions_ok P = all (λ p. goals_stand false p.body) P.procedures
