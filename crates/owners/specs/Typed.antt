-- What number 3 says of every record that is a goal: each belongs to a procedure, and the goals of procedures pass.
use Rattle.std.specs.Prelude.{ℕ, suc, ◌<◌, true, List, [], ◌∷◌, ◌≡◌, refl}
use Rattle.std.proofs.lemmas.Bool.{false≢true}
use Rattle.std.proofs.Math.Path.{sym}
use Rattle.std.proofs.Common.{◌∙◌}
use Rattle.sets.specs.Tests.{and_true, true_and}
use Rattle.language.specs.File.{GoalKind, k_goal, kind_of, word, record_count}
use Rattle.language.specs.Format.{kind_word}
use Rattle.language.specs.Program.{Functor, Goals, done, ◌then◌, Goal, step, switch, if_less, try, Arms, no_arms, arm, Signature, Program, signature_of}
use Rattle.language.specs.Typing.{goals_ok, goal_ok, arms_ok, typing_ok}
use Rattle.language.specs.Answers.{program}
use Rattle.region_graph.specs.Typed.{goals_typed}
use Rattle.chains.specs.Formed.{Formed, goal_at}
use Rattle.owners.specs.Owner.{owner_of}
use Rattle.owners.specs.Everywhere.{all_goals, all_goal, all_arms, every_goal, if_goal}
use Rattle.owners.specs.Numbered.{at_every}
use Rattle.owners.specs.TreeLaw.{goals_records, record_kind}

-- ---- goals that pass: each of them does, with its parts
module _ (P : Program) (S : Signature) where
  mutual
    unfolding goals_ok all_goals

    goals_each : (gs : Goals) → goals_ok P S gs ≡ true → all_goals (goal_ok P S) gs ≡ true
    goals_each done e = refl
    goals_each (g then gs) e = true_and (goal_each g (and_true e).0) (goals_each gs (and_true e).1)

    goal_each : (g : Goal) → goal_ok P S g ≡ true → all_goal (goal_ok P S) g ≡ true
    goal_each (step s) e = e
    goal_each (switch x cs) e = true_and e (arms_each cs _ 0 (and_true (and_true e).1).1)
    goal_each (if_less y z a b) e =
        let p = and_true (and_true (and_true e).1).1 in
        true_and e (true_and (goals_each a p.0) (goals_each b p.1))
    goal_each (try c a b) e =
        let p = and_true (and_true e).1 in
        true_and e (true_and (goals_each c (and_true e).0) (true_and (goals_each a p.0) (goals_each b p.1)))

    arms_each : (cs : Arms) (fs : List Functor) (n : ℕ) → arms_ok P S cs fs n ≡ true → all_arms (goal_ok P S) cs ≡ true
    arms_each no_arms fs n e = refl
    arms_each (arm k ys gs cs) [] n e = absurd (false≢true e)
    arms_each (arm k ys gs cs) (g ∷ fs) n e =
        let p = and_true (and_true (and_true e).1).1 in
        true_and (goals_each gs p.0) (arms_each cs fs (suc n) p.1)

module _ {f : List ℕ} (F : Formed f) (ok : typing_ok (program f) ≡ true) where
  every : every_goal (λ q. goal_ok (program f) (signature_of (program f) q)) (program f) ≡ true
  every =
      at_every (λ q. goal_ok (program f) (signature_of (program f) q)) (program f)
      (λ q l. goals_each (program f) (signature_of (program f) q) _ (goals_typed (program f) ok q))

  pub typed_goal : (i : ℕ) → 0 < i → i < record_count f → (g : GoalKind) → kind_of (word f i kind_word) ≡ k_goal g
      → goal_ok (program f) (signature_of (program f) (owner_of f i)) (goal_at f i) ≡ true
  unfolding if_goal
  typed_goal i p q g e =
      sym (record_kind (λ o. goal_ok (program f) (signature_of (program f) o)) F i (k_goal g) e)
      ∙ goals_records (λ o. goal_ok (program f) (signature_of (program f) o)) F every i p q
