-- The checker goes through goals once and joins arms; here it is shown to answer as if it went along every path by itself: a test of what it
-- carries at the end is the test at the end of every path, with each path's own held regions and sound variables.
use Rattle.std.specs.Prelude.{ℕ, Bool, true, false, ◌≡◌, refl}
use Rattle.std.proofs.lemmas.Bool.{false≢true}
use mathlib.Core.List.{◌∷◌, []}
use Rattle.std.proofs.Math.Path.{sym, ap, ap₂}
use Rattle.std.proofs.Common.{◌∙◌}
use Rattle.sets.specs.Tests.{◌&◌, and_true}
use Rattle.sets.specs.Sets.{member, Small}
use Rattle.sets.specs.Members.{set_of}
use Rattle.sets.specs.declared.Set.{Set}
use Rattle.language.specs.Lists.{all}
use Rattle.language.specs.Program.{Four, arguments_of, Step, Goals, done, ◌then◌, Goal, step, switch, if_less, try, Arms, no_arms, arm, Signature, Program}
use Rattle.language.specs.Checking.{carries, carry_on, join_arms, sound_given, check_step, check_goals, check_goal, check_arms}
use Rattle.laws.specs.Tests.{and_yes, and_shared}
use Rattle.laws.specs.Goals.{some_arm}
use Rattle.paths.specs.Paths.{does, takes, compares, tries, then_each, then_all, paths, ways, arm_ways, event_rules, held_then, sound_then, keeps_along}
use Rattle.paths.proofs.Named.{step_named, goals_named, goal_named, arms_named, some_path_law}
use Rattle.paths.proofs.Alls.{none_all}
use Rattle.paths.proofs.Steps.{step_checks, takes_sound, sound_small}
use Rattle.paths.proofs.Carrying.{Test, passes, Splits, passes_require, passes_on, passes_join, passes_same, small_goals, small_goal}
use Rattle.paths.proofs.Along.{along_all, all_splits, along_then, along_append, along_takes, along_compares, along_tries}

module _ (P : Program) (S : Signature) where
  done_along : (K : Test) (h s : Set) → passes K (carries h s) ≡ along_all P S K ([] ∷ []) h s
  unfolding along_all all keeps_along passes
  done_along K h s = sym (and_yes (K h s))

  step_along : (g : Step) → step_named P S g ≡ true → (K : Test) (h s : Set) → Small s
      → passes K (check_step P S g h s) ≡ along_all P S K (ways (step g)) h s
  unfolding along_all ways all keeps_along passes
  step_along g n K h s m =
      ap (passes K) (step_checks P S g h s n m)
      ∙ passes_require K (event_rules P S (does g) h s) (carries (held_then P S (does g) h) (sound_then P S (does g) h s))
      ∙ sym (and_yes (event_rules P S (does g) h s & K (held_then P S (does g) h) (sound_then P S (does g) h s)))

  -- an arm before others
  arm_along : (f x : ℕ) (ys : Four) (gs : Goals) (cs : Arms) (K : Test) → Splits K → (h s : Set)
      → along_all P S K (then_each (takes x f ys ∷ []) (paths gs)) h s
      ≡ (member s x & passes K (check_goals P S gs h (sound_given S (set_of (arguments_of ys)) h s)))
      → (some_arm cs ≡ true → along_all P S K (arm_ways cs x) h s ≡ (member s x & passes K (check_arms P S cs h s)))
      → along_all P S K (arm_ways (arm f ys gs cs) x) h s ≡ (member s x & passes K (check_arms P S (arm f ys gs cs) h s))
  unfolding arm_ways check_arms some_arm along_all all
  arm_along f x ys gs no_arms K split h s first later =
      along_append P S K (then_each (takes x f ys ∷ []) (paths gs)) [] h s ∙ and_yes _ ∙ first
  arm_along f x ys gs (arm e zs hs cs) K split h s first later =
      along_append P S K (then_each (takes x f ys ∷ []) (paths gs)) (arm_ways (arm e zs hs cs) x) h s ∙ ap₂ ◌&◌ first (later refl)
      ∙ and_shared (member s x) _ _
      ∙ ap (λ (b : Bool). member s x & b) (sym (passes_join K split _ (check_arms P S (arm e zs hs cs) h s)))

  mutual
    unfolding goals_named check_goals paths some_arm

    pub goals_along : (gs : Goals) → goals_named P S gs ≡ true → (K : Test) → Splits K → (h s : Set) → Small s
        → passes K (check_goals P S gs h s) ≡ along_all P S K (paths gs) h s
    goals_along done n K split h s m = done_along K h s
    goals_along (g then gs) n K split h s m =
        let r = and_true n in
        let some = some_path_law P S gs r.1 in
        passes_on K (check_goal P S g h s) (λ k t. check_goals P S gs k t)
        ∙ passes_same (λ k t. passes K (check_goals P S gs k t)) (along_all P S K (paths gs)) (λ k t l. goals_along gs r.1 K split k t l)
        (check_goal P S g h s) (small_goal P S g h s m)
        ∙ goal_along g r.0 (along_all P S K (paths gs)) (all_splits P S K split (paths gs) some) h s m
        ∙ sym (along_then P S K (ways g) (paths gs) some h s)

    pub goal_along : (g : Goal) → goal_named P S g ≡ true → (K : Test) → Splits K → (h s : Set) → Small s
        → passes K (check_goal P S g h s) ≡ along_all P S K (ways g) h s
    goal_along (step g) n K split h s m = step_along g n K h s m
    goal_along (switch x cs) n K split h s m =
        let r = and_true n in
        passes_require K (member s x) (check_arms P S cs h s) ∙ sym (arms_along cs r.1 x r.0 K split h s m)
    goal_along (if_less y z a b) n K split h s m =
        let r = and_true n in
        passes_require K (member s y & member s z) (join_arms (check_goals P S a h s) (check_goals P S b h s))
        ∙ ap (λ (c : Bool). (member s y & member s z) & c)
        (passes_join K split (check_goals P S a h s) (check_goals P S b h s)
        ∙ ap₂ ◌&◌ (goals_along a r.0 K split h s m) (goals_along b r.1 K split h s m))
        ∙ sym (and_shared (member s y & member s z) (along_all P S K (paths a) h s) (along_all P S K (paths b) h s))
        ∙ sym (ap₂ ◌&◌ (along_compares P S K y z true (paths a) (some_path_law P S a r.0) h s)
        (along_compares P S K y z false (paths b) (some_path_law P S b r.1) h s))
        ∙ sym (along_append P S K (then_each (compares y z true ∷ []) (paths a)) (then_each (compares y z false ∷ []) (paths b)) h s)
    goal_along (try c a b) n K split h s m =
        let r = and_true n in
        let q = and_true r.1 in
        let some = some_path_law P S a q.0 in
        passes_join K split (carry_on (check_goals P S c h s) (λ k t. check_goals P S a k t)) (check_goals P S b h s)
        ∙ ap₂ ◌&◌
        (passes_on K (check_goals P S c h s) (λ k t. check_goals P S a k t)
        ∙ passes_same (λ k t. passes K (check_goals P S a k t)) (along_all P S K (paths a)) (λ k t l. goals_along a q.0 K split k t l)
        (check_goals P S c h s) (small_goals P S c h s m)
        ∙ goals_along c r.0 (along_all P S K (paths a)) (all_splits P S K split (paths a) some) h s m
        ∙ sym (along_then P S K (paths c) (paths a) some h s)
        ∙ sym (along_tries P S K true (then_all (paths c) (paths a)) (none_all (paths c) (paths a) (some_path_law P S c r.0) some) h s))
        (goals_along b q.1 K split h s m ∙ sym (along_tries P S K false (paths b) (some_path_law P S b q.1) h s))
        ∙ sym (along_append P S K (then_each (tries true ∷ []) (then_all (paths c) (paths a))) (then_each (tries false ∷ []) (paths b)) h s)

    pub arms_along : (cs : Arms) → arms_named P S cs ≡ true → (x : ℕ) → some_arm cs ≡ true → (K : Test) → Splits K → (h s : Set) → Small s
        → along_all P S K (arm_ways cs x) h s ≡ (member s x & passes K (check_arms P S cs h s))
    arms_along no_arms n x e K split h s m = absurd (false≢true e)
    arms_along (arm f ys gs cs) n x e K split h s m =
        let r = and_true n in
        arm_along f x ys gs cs K split h s
        (along_takes P S K x f ys (paths gs) (some_path_law P S gs r.0) h s
        ∙ ap (λ (b : Bool). member s x & b)
        (sym (goals_along gs r.0 K split h (sound_then P S (takes x f ys) h s) (sound_small P S (takes x f ys) h s m))
        ∙ ap (λ (t : Set). passes K (check_goals P S gs h t)) (sym (takes_sound P S x f ys h s))))
        (λ some. arms_along cs r.1 x some K split h s m)
