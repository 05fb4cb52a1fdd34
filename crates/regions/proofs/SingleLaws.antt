-- Number 5 of single goals, asked of every record that is a goal, is number 5 of the file.
use Prim.Native.Nat.{ℕ, ◌-◌}
use mathlib.Core.Bool.{Bool, true, false}
use mathlib.Core.List.{List}
use mathlib.Core.Path.{◌≡◌, refl, ap₂, ◌∙◌}
use Rattle.sets.specs.Tests.{◌&◌}
use Rattle.language.specs.File.{record_count}
use Rattle.language.specs.Lists.{all, up_from}
use Rattle.language.specs.Program.{arguments_of, Goals, done, ◌then◌, Goal, step, switch, if_less, try, Arms, no_arms, arm, Signature, Program, region_of, signature_of}
use Rattle.language.specs.Regions.{in_targets, goals_regions, goal_regions, arms_regions, regions_ok}
use Rattle.language.specs.Answers.{program}
use Rattle.chains.specs.Formed.{Formed}
use Rattle.owners.specs.Everywhere.{all_goals, all_goal, all_arms, record_test, every_record}
use Rattle.owners.specs.Numbered.{every_same}
use Rattle.owners.specs.TreeLaw.{every_record_law}
use Rattle.regions.specs.Single.{agrees, agrees_here, arms_here}

-- ---- number 5
arm_swap : (t a h c : Bool) → (t & (a & (h & c))) ≡ ((t & h) & (a & c))
unfolding ◌&◌
arm_swap true true h c = refl
arm_swap true false true c = refl
arm_swap true false false c = refl
arm_swap false a h c = refl

module _ (P : Program) (S : Signature) where
  mutual
    unfolding goals_regions all_goals agrees_here arms_here ◌&◌

    goals_agree : (gs : Goals) → goals_regions P S gs ≡ all_goals (agrees_here P S) gs
    goals_agree done = refl
    goals_agree (g then gs) = ap₂ ◌&◌ (goal_agrees g) (goals_agree gs)

    goal_agrees : (g : Goal) → goal_regions P S g ≡ all_goal (agrees_here P S) g
    goal_agrees (step s) = refl
    goal_agrees (switch x cs) = arms_agree_law cs (region_of S x)
    goal_agrees (if_less y z a b) = ap₂ ◌&◌ (goals_agree a) (goals_agree b)
    goal_agrees (try c a b) = ap₂ ◌&◌ (goals_agree c) (ap₂ ◌&◌ (goals_agree a) (goals_agree b))

    arms_agree_law : (cs : Arms) (r : ℕ) → arms_regions P S cs r ≡ (arms_here P S cs r & all_arms (agrees_here P S) cs)
    arms_agree_law no_arms r = refl
    arms_agree_law (arm f ys gs cs) r =
        ap₂ (λ (a b : Bool). in_targets P S r f 1 (arguments_of ys) & (a & b)) (goals_agree gs) (arms_agree_law cs r)
        ∙ arm_swap (in_targets P S r f 1 (arguments_of ys)) (all_goals (agrees_here P S) gs) (arms_here P S cs r) (all_arms (agrees_here P S) cs)

-- THE LOOP: every record from 1 on
pub number_5 : {f : List ℕ} → Formed f → regions_ok (program f) ≡ all (record_test (agrees f) f) (up_from 1 (record_count f - 1))
unfolding regions_ok agrees every_record signature_of
number_5 {f} F =
    every_same (agrees f) (program f) (λ p. goals_regions (program f) p.signature p.body) (λ q l. goals_agree (program f) (signature_of (program f) q) _)
    ∙ every_record_law (agrees f) F
