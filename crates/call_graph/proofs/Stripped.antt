-- Striking out creates and removes leaves the calls as they are, and so number 17's answer.
use Rattle.std.specs.Prelude.{ℕ, List, ◌++◌, ◌≡◌, refl}
use Rattle.std.proofs.Math.Path.{ap}
use Rattle.std.proofs.Common.{ap₂, ◌∙◌}
use Rattle.std.proofs.lemmas.List.{length-map}
use Rattle.language.specs.Program.{Step, literal, sum, assign, construct, call, print, create, remove, test, Goals, done, ◌then◌, Goal, step, switch, if_less, try, Arms, no_arms, arm, Program, procedure_at}
use Rattle.language.specs.Annotation.{plain_step}
use Rattle.language.specs.CallChains.{step_callees, goals_callees, goal_callees, arms_callees, callees, reached_ok}
use Rattle.language.specs.PlainRun.{then_if, strip_goals, strip_goal, strip_arms, strip_procedure, stripped}
use Rattle.laws.specs.Goals.{strip_body}
use Rattle.call_graph.proofs.AllReached.{same_reached}

step_callees_law : (g : Step) (gs : Goals) → goals_callees (then_if (plain_step g) (step g) gs) ≡ step_callees g ++ goals_callees gs
unfolding then_if plain_step goals_callees step_callees
step_callees_law (literal x v) gs = refl
step_callees_law (sum x o y z) gs = refl
step_callees_law (assign x y) gs = refl
step_callees_law (construct x f ys) gs = refl
step_callees_law (call q ys) gs = refl
step_callees_law (print y) gs = refl
step_callees_law (create r) gs = refl
step_callees_law (remove r) gs = refl
step_callees_law (test y z) gs = refl

mutual
  unfolding strip_goals goals_callees

  goals_callees_law : (gs : Goals) → goals_callees (strip_goals gs) ≡ goals_callees gs
  goals_callees_law done = refl
  goals_callees_law (g then gs) = goal_callees_law g (strip_goals gs) ∙ ap (λ (ps : List ℕ). goal_callees g ++ ps) (goals_callees_law gs)

  goal_callees_law : (g : Goal) (gs : Goals) → goals_callees (strip_goal g gs) ≡ goal_callees g ++ goals_callees gs
  goal_callees_law (step g) gs = step_callees_law g gs
  goal_callees_law (switch x cs) gs = ap (λ (ps : List ℕ). ps ++ goals_callees gs) (arms_callees_law cs)
  goal_callees_law (if_less y z a b) gs = ap₂ (λ (ps qs : List ℕ). (ps ++ qs) ++ goals_callees gs) (goals_callees_law a) (goals_callees_law b)
  goal_callees_law (try c a b) gs = rw (goals_callees_law c, goals_callees_law a, goals_callees_law b)

  arms_callees_law : (cs : Arms) → arms_callees (strip_arms cs) ≡ arms_callees cs
  arms_callees_law no_arms = refl
  arms_callees_law (arm f ys gs cs) = ap₂ (λ (ps qs : List ℕ). ps ++ qs) (goals_callees_law gs) (arms_callees_law cs)

module _ (P : Program) where
  stripped_callees : (p : ℕ) → callees (stripped P) p ≡ callees P p
  unfolding callees
  stripped_callees p = ap goals_callees (strip_body P p) ∙ goals_callees_law (procedure_at P p).body

  pub stripped_reached : reached_ok (stripped P) ≡ reached_ok P
  unfolding stripped
  stripped_reached = same_reached (stripped P) P (length-map P.procedures strip_procedure) stripped_callees
