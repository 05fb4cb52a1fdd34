-- Striking out creates and removes leaves number 2's answer on conditions and tests as it is: they may stand anywhere (C-20).
use Rattle.std.specs.Prelude.{Bool, true, false, List, ◌≡◌, refl}
use Rattle.std.proofs.Common.{ap, ap₂, ◌∙◌}
use Rattle.sets.specs.Tests.{◌&◌, neg}
use Rattle.language.specs.Lists.{all}
use Rattle.language.specs.Program.{Step, literal, sum, assign, construct, call, print, create, remove, test, Goals, done, ◌then◌, Goal, step, switch, if_less, try, Arms, no_arms, arm, Program}
use Rattle.language.specs.Conditions.{step_stands, goals_stand, goal_stands, arms_stand, conditions_ok}
use Rattle.language.specs.Annotation.{plain_step}
use Rattle.language.specs.PlainRun.{then_if, strip_goals, strip_goal, strip_arms, strip_procedure, stripped}
use Rattle.laws.specs.Lists.{all_map, all_same}

step_stands_law : (i : Bool) (g : Step) (gs : Goals) → goals_stand i (then_if (plain_step g) (step g) gs) ≡ (step_stands i g & goals_stand i gs)
unfolding then_if plain_step goals_stand step_stands ◌&◌
step_stands_law i (literal x v) gs = refl
step_stands_law i (sum x o y z) gs = refl
step_stands_law i (assign x y) gs = refl
step_stands_law i (construct x f ys) gs = refl
step_stands_law i (call q ys) gs = refl
step_stands_law i (print y) gs = refl
step_stands_law i (create r) gs = refl
step_stands_law i (remove r) gs = refl
step_stands_law i (test y z) gs = refl

mutual
  unfolding strip_goals goals_stand

  pub stripped_stand : (i : Bool) (gs : Goals) → goals_stand i (strip_goals gs) ≡ goals_stand i gs
  stripped_stand i done = refl
  stripped_stand i (g then gs) = stripped_stands i g (strip_goals gs) ∙ ap (λ (b : Bool). goal_stands i g & b) (stripped_stand i gs)

  stripped_stands : (i : Bool) (g : Goal) (gs : Goals) → goals_stand i (strip_goal g gs) ≡ (goal_stands i g & goals_stand i gs)
  stripped_stands i (step g) gs = step_stands_law i g gs
  stripped_stands i (switch x cs) gs = ap (λ (b : Bool). b & goals_stand i gs) (stripped_arms i cs)
  stripped_stands i (if_less y z a b) gs = rw (stripped_stand i a, stripped_stand i b)
  stripped_stands i (try c a b) gs = rw (stripped_stand true c, stripped_stand i a, stripped_stand i b)

  stripped_arms : (i : Bool) (cs : Arms) → arms_stand i (strip_arms cs) ≡ arms_stand i cs
  stripped_arms i no_arms = refl
  stripped_arms i (arm f ys gs cs) = ap₂ ◌&◌ (stripped_stand i gs) (stripped_arms i cs)

pub stripped_conditions : (P : Program) → conditions_ok (stripped P) ≡ conditions_ok P
unfolding conditions_ok stripped strip_procedure
stripped_conditions P = all_map _ strip_procedure P.procedures ∙ all_same _ _ (λ p. stripped_stand false p.body) P.procedures
