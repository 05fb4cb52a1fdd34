-- Laws of `specs/Checker` that only proofs cite.
use Prim.Native.Nat.{ℕ}
use mathlib.Core.Path.{◌≡◌, refl, sym, ap₂, ◌∙◌}
use mathlib.Core.Bool.{Bool, true, false}
use Rattle.sets.specs.Tests.{◌&◌}
use Rattle.sets.specs.Sets.{member}
use Rattle.sets.specs.Members.{set_of}
use Rattle.sets.specs.declared.Set.{Set}
use Rattle.language.specs.Program.{Four, arguments_of, Step, Goals, done, ◌then◌, Goal, step, switch, if_less, try, Arms, no_arms, arm, Signature, Program}
use Rattle.language.specs.Checking.{Carried, broken, carries, require_rule, carry_on, join_arms, sound_given, check_step, check_goals, check_goal, check_arms}
use Rattle.walks.specs.Walk.{WalkOutcome, stopped, goes_on, require, onwards, meet, walk_goals, walk_goal, walk_arms}
use Rattle.checking.specs.Checker.{CheckState, as_outcome, checker}

-- ---- it says what number 8 says
unfoldable pub told : WalkOutcome CheckState → Carried
told stopped = broken
told (goes_on a) = carries a.held a.sound

there : (c : Carried) → told (as_outcome c) ≡ c
unfolding told as_outcome
there broken = refl
there (carries h s) = refl

required : (b : Bool) (c : WalkOutcome CheckState) → told (require b c) ≡ require_rule b (told c)
unfolding require require_rule told
required true c = refl
required false c = refl

on_both : (c : WalkOutcome CheckState) (d : Carried) (f : CheckState → WalkOutcome CheckState) (k : Set → Set → Carried) → told c ≡ d
    → ((a : CheckState) → told (f a) ≡ k a.held a.sound) → told (onwards c f) ≡ carry_on d k
unfolding told onwards carry_on
on_both stopped d f k e m = rw (sym e) refl
on_both (goes_on a) d f k e m = rw (sym e) (m a)

module _ (P : Program) (S : Signature) where
  met : (c d : WalkOutcome CheckState) {v w : Carried} → told c ≡ v → told d ≡ w → told (meet (checker P S) c d) ≡ join_arms v w
  unfolding told meet join_arms checker
  met stopped d e h = rw (sym e) refl
  met (goes_on a) stopped e h = rw (sym e, sym h) refl
  met (goes_on a) (goes_on b) e h = rw (sym e, sym h) (required _ _)

  test_is : (a : CheckState) (x : ℕ) → (checker P S).readable a x ≡ member a.sound x
  unfolding checker
  test_is a x = refl

  arm_agree : (ys : Four) (gs : Goals) (a : CheckState) → ((b : CheckState) → told (walk_goals (checker P S) gs b) ≡ check_goals P S gs b.held b.sound)
      → told (onwards ((checker P S).enter ys a) (λ b. walk_goals (checker P S) gs b)) ≡ check_goals P S gs a.held (sound_given S (set_of (arguments_of ys)) a.held a.sound)
  unfolding checker onwards
  arm_agree ys gs a m = m _

  step_agree : (g : Step) (a : CheckState) → told ((checker P S).at_step g a) ≡ check_step P S g a.held a.sound
  unfolding checker
  step_agree g a = there _

  mutual
    unfolding walk_goals walk_goal walk_arms check_goals check_goal check_arms told

    pub goals_agree : (gs : Goals) (a : CheckState) → told (walk_goals (checker P S) gs a) ≡ check_goals P S gs a.held a.sound
    goals_agree done a = refl
    goals_agree (g then gs) a =
        on_both (walk_goal (checker P S) g a) (check_goal P S g a.held a.sound) (λ b. walk_goals (checker P S) gs b) (λ h s. check_goals P S gs h s)
        (goal_agree g a) (λ b. goals_agree gs b)

    goal_agree : (g : Goal) (a : CheckState) → told (walk_goal (checker P S) g a) ≡ check_goal P S g a.held a.sound
    goal_agree (step g) a = step_agree g a
    goal_agree (switch x cs) a = required _ (walk_arms (checker P S) cs a) ∙ ap₂ require_rule (test_is a x) (arms_agree_law cs a)
    goal_agree (if_less y z bs cs) a =
        required _ (meet (checker P S) (walk_goals (checker P S) bs a) (walk_goals (checker P S) cs a))
        ∙ ap₂ require_rule (ap₂ ◌&◌ (test_is a y) (test_is a z)) (met (walk_goals (checker P S) bs a) (walk_goals (checker P S) cs a) (goals_agree bs a) (goals_agree cs a))
    goal_agree (try ds bs cs) a =
        met _ (walk_goals (checker P S) cs a)
        (on_both (walk_goals (checker P S) ds a) (check_goals P S ds a.held a.sound) (λ b. walk_goals (checker P S) bs b) (λ h s. check_goals P S bs h s)
        (goals_agree ds a) (λ b. goals_agree bs b))
        (goals_agree cs a)

    arms_agree_law : (cs : Arms) (a : CheckState) → told (walk_arms (checker P S) cs a) ≡ check_arms P S cs a.held a.sound
    arms_agree_law no_arms a = refl
    arms_agree_law (arm f ys gs no_arms) a = arm_agree ys gs a (λ b. goals_agree gs b)
    arms_agree_law (arm f ys gs (arm k zs hs cs)) a =
        met _ (walk_arms (checker P S) (arm k zs hs cs) a) (arm_agree ys gs a (λ b. goals_agree gs b)) (arms_agree_law (arm k zs hs cs) a)
