-- A test of single goals, asked of every goal of a program, and asked of every record that is a goal. In a file that passes numbers 1 and 2 it is the
-- same (module TreeLaw): `every_record_law`.
use Rattle.std.specs.Prelude.{ℕ, suc, ◌-◌, Bool, true, List, [], ◌∷◌}
use Rattle.sets.specs.Tests.{◌&◌}
use Rattle.language.specs.Lists.{all, up_from}
use Rattle.language.specs.Format.{kind_word}
use Rattle.language.specs.File.{Kind, k_none, k_header, k_type, k_functor, k_procedure, k_variable, k_region, k_edge, k_arm, k_argument, k_goal, kind_of, word, record_count}
use Rattle.language.specs.Program.{Goals, done, ◌then◌, Goal, step, switch, if_less, try, Arms, no_arms, arm, Procedure, Program}
use Rattle.chains.specs.Formed.{goal_at}
use Rattle.owners.specs.Owner.{owner_of}

-- ---- in a program: the goals of a chain and of their parts
module _ (L : Goal → Bool) where
  unfoldable mutual
    pub all_goals : Goals → Bool
    all_goals done = true
    all_goals (g then gs) = all_goal g & all_goals gs

    pub all_goal : Goal → Bool
    all_goal (step s) = L (step s)
    all_goal (switch x cs) = L (switch x cs) & all_arms cs
    all_goal (if_less y z a b) = L (if_less y z a b) & all_goals a & all_goals b
    all_goal (try c a b) = L (try c a b) & all_goals c & all_goals a & all_goals b

    pub all_arms : Arms → Bool
    all_arms no_arms = true
    all_arms (arm f ys gs cs) = all_goals gs & all_arms cs

module _ (L : ℕ → Goal → Bool) where
  -- of procedures, the first of them numbered q; the test takes the number
  unfoldable pub all_from : ℕ → List Procedure → Bool
  all_from q [] = true
  all_from q (p ∷ ps) = all_goals (L q) p.body & all_from (suc q) ps

  unfoldable pub every_goal : Program → Bool
  every_goal P = all_from 0 P.procedures

-- ---- in a file: every record that is a goal
unfoldable pub if_goal : Kind → Bool → Bool
if_goal k_none b = true
if_goal k_header b = true
if_goal k_type b = true
if_goal k_functor b = true
if_goal k_procedure b = true
if_goal k_variable b = true
if_goal k_region b = true
if_goal k_edge b = true
if_goal k_arm b = true
if_goal k_argument b = true
if_goal (k_goal g) b = b

module _ (L : ℕ → Goal → Bool) (f : List ℕ) where
  unfoldable pub record_test : ℕ → Bool
  record_test i = if_goal (kind_of (word f i kind_word)) (L (owner_of f i) (goal_at f i))

  unfoldable pub every_record : Bool
  every_record = all record_test (up_from 1 (record_count f - 1))
