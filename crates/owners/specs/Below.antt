-- A goal's record belongs to a procedure that there is: a table of the procedures has a place for its entry.
use Rattle.std.specs.Prelude.{ℕ, ◌<◌, Bool, true, List, ◌≡◌, refl, ltb, length}
use Rattle.std.proofs.Common.{arith, sym, ◌∙◌}
use borrow.Author.Tests.{lt-ltb, ltb-true}
use Rattle.sets.specs.Tests.{true_and}
use Rattle.language.specs.File.{goals}
use Rattle.language.specs.Answers.{program}
use Rattle.language.specs.Program.{Goals, done, ◌then◌, Goal, step, switch, if_less, try, Arms, no_arms, arm}
use Rattle.chains.specs.Formed.{Formed, Stands}
use Rattle.owners.specs.Owner.{owner_of}
use Rattle.owners.specs.Owners.{goal_kind}
use Rattle.owners.specs.Everywhere.{all_goals, all_goal, all_arms, every_goal, if_goal}
use Rattle.owners.specs.Numbered.{at_every}
use Rattle.owners.specs.TreeLaw.{goals_records, record_kind}

-- a test that every goal passes
module _ (L : Goal → Bool) (h : (g : Goal) → L g ≡ true) where
  mutual
    unfolding all_goals

    pub goals_pass : (gs : Goals) → all_goals L gs ≡ true
    goals_pass done = refl
    goals_pass (g then gs) = true_and (goal_passes g) (goals_pass gs)

    goal_passes : (g : Goal) → all_goal L g ≡ true
    goal_passes (step s) = h (step s)
    goal_passes (switch x cs) = true_and (h (switch x cs)) (arms_pass cs)
    goal_passes (if_less y z a b) = true_and (h (if_less y z a b)) (true_and (goals_pass a) (goals_pass b))
    goal_passes (try c a b) = true_and (h (try c a b)) (true_and (goals_pass c) (true_and (goals_pass a) (goals_pass b)))

    arms_pass : (cs : Arms) → all_arms L cs ≡ true
    arms_pass no_arms = refl
    arms_pass (arm f ys gs cs) = true_and (goals_pass gs) (arms_pass cs)

module _ {f : List ℕ} (F : Formed f) where
  -- the number of the procedure, as a test of its goals
  abbrev below : ℕ → Goal → Bool
  below q g = ltb q (length (program f).procedures)

  every_below : every_goal below (program f) ≡ true
  every_below = at_every below (program f) (λ q l. goals_pass (below q) (λ g. lt-ltb q _ l) _)

  pub goal_owner_below : {i : ℕ} → (i ≡ 0 → ⊥) → Stands f goals i → owner_of f i < length (program f).procedures
  unfolding if_goal
  goal_owner_below {i} z s =
      let k = goal_kind s z in
      ltb-true _ _ (sym (record_kind below F i _ k.1) ∙ goals_records below F every_below i (omega (arith, z)) s.below)
