-- What number 3 sees to and the theorems need: the numbers that a step's rules look up are from 1 to 64, or 0 for the region of a type that has
-- none, and each switch has an arm.
-- `Typed` proves that a file past number 3 is so.
use Rattle.std.specs.Prelude.{ℕ, Bool, true, false, ◌∷◌, ◌≡◌, refl, leb, []}
use Rattle.std.proofs.lemmas.Bool.{false≢true}
use Rattle.sets.specs.Tests.{◌&◌, and_true}
use Rattle.language.specs.Lists.{all, among, is_none}
use Rattle.language.specs.Program.{Step, literal, sum, assign, construct, call, print, create, remove, test, Goals, done, ◌then◌, Goal, step, switch, if_less, try, Arms, no_arms, arm, Signature, Program, region_of}
use Rattle.language.specs.Values.{access}
use Rattle.laws.specs.Lists.{none_append}
use Rattle.laws.specs.Goals.{some_arm}
use Rattle.paths.specs.Paths.{takes, compares, tries, paths, ways, arm_ways, then_each, then_all}
use Rattle.paths.proofs.Alls.{none_each, none_all}

module _ (P : Program) (S : Signature) where
  unfoldable pub region_named : Step → Bool
  region_named (literal x v) = true
  region_named (sum x o y z) = true
  region_named (assign x y) = true
  region_named (construct x f ys) = leb (region_of S x) 64
  region_named (call q ys) = true
  region_named (print y) = true
  region_named (test y z) = true
  region_named (create r) = among 64 r
  region_named (remove r) = among 64 r

  unfoldable pub step_named : Step → Bool
  step_named g = all (among 64) (access P g).read & region_named g

  unfoldable mutual
    pub goals_named : Goals → Bool
    goals_named done = true
    goals_named (g then gs) = goal_named g & goals_named gs

    pub goal_named : Goal → Bool
    goal_named (step g) = step_named g
    goal_named (switch x cs) = some_arm cs & arms_named cs
    goal_named (if_less y z a b) = goals_named a & goals_named b
    goal_named (try c a b) = goals_named c & goals_named a & goals_named b

    pub arms_named : Arms → Bool
    arms_named no_arms = true
    arms_named (arm f ys gs cs) = goals_named gs & arms_named cs

  -- goals in which each switch has an arm have a path
  mutual
    unfolding goals_named paths is_none some_arm

    pub some_path_law : (gs : Goals) → goals_named gs ≡ true → is_none (paths gs) ≡ false
    some_path_law done n = refl
    some_path_law (g then gs) n = let r = and_true n in none_all (ways g) (paths gs) (some_way g r.0) (some_path_law gs r.1)

    pub some_way : (g : Goal) → goal_named g ≡ true → is_none (ways g) ≡ false
    some_way (step g) n = refl
    some_way (switch x cs) n = let r = and_true n in some_arm_law cs x r.0 r.1
    some_way (if_less y z a b) n =
        none_append (then_each (compares y z true ∷ []) (paths a)) _ (none_each (compares y z true ∷ []) (paths a) (some_path_law a (and_true n).0))
    some_way (try c a b) n =
        let r = and_true n in
        none_append (then_each (tries true ∷ []) (then_all (paths c) (paths a))) _
        (none_each (tries true ∷ []) (then_all (paths c) (paths a)) (none_all (paths c) (paths a) (some_path_law c r.0) (some_path_law a (and_true r.1).0)))

    pub some_arm_law : (cs : Arms) (x : ℕ) → some_arm cs ≡ true → arms_named cs ≡ true → is_none (arm_ways cs x) ≡ false
    some_arm_law no_arms x e n = absurd (false≢true e)
    some_arm_law (arm f ys gs cs) x e n =
        none_append (then_each (takes x f ys ∷ []) (paths gs)) (arm_ways cs x)
        (none_each (takes x f ys ∷ []) (paths gs) (some_path_law gs (and_true n).0))
