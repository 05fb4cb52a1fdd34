-- How many points goals have.
use Rattle.std.specs.Prelude.{ℕ, suc, ◌+◌, ◌++◌, ◌≡◌, refl, length}
use Rattle.std.proofs.Common.{arith, length-append}
use Rattle.sets.specs.declared.Set.{Set}
use Rattle.language.specs.Program.{Goals, done, ◌then◌, Goal, step, switch, if_less, try, Arms, no_arms, arm, Program}
use Rattle.language.specs.Lifetimes.{live}
use Rattle.liveness.specs.Points.{points, part_points, arms_points}

-- one point a goal
unfoldable mutual
  pub goals_count : Goals → ℕ
  goals_count done = 0
  goals_count (g then gs) = goal_count g + goals_count gs

  pub goal_count : Goal → ℕ
  goal_count (step s) = 1
  goal_count (switch x cs) = suc (arms_count cs)
  goal_count (if_less y z a b) = suc (goals_count a + goals_count b)
  goal_count (try c a b) = suc (goals_count c + (goals_count a + goals_count b))

  pub arms_count : Arms → ℕ
  arms_count no_arms = 0
  arms_count (arm f ys gs cs) = goals_count gs + arms_count cs

module _ (P : Program) where
  mutual
    unfolding points goals_count

    pub points_count : (gs : Goals) (after : Set) → length (points P gs after) ≡ goals_count gs
    points_count done after = refl
    points_count (g then gs) after =
        omega (arith, length-append (part_points P g (live P gs after)) (points P gs after), parts_count g (live P gs after), points_count gs after)

    -- a goal's own point is one more
    pub parts_count : (g : Goal) (after : Set) → suc (length (part_points P g after)) ≡ goal_count g
    parts_count (step s) after = refl
    parts_count (switch x cs) after = omega (arith, arms_count_law cs after)
    parts_count (if_less y z a b) after = omega (arith, length-append (points P a after) (points P b after), points_count a after, points_count b after)
    parts_count (try c a b) after =
        omega (
          arith,
          length-append (points P c (live P a after)) (points P a after ++ points P b after),
          length-append (points P a after) (points P b after),
          points_count c (live P a after),
          points_count a after,
          points_count b after,
        )

    pub arms_count_law : (cs : Arms) (after : Set) → length (arms_points P cs after) ≡ arms_count cs
    arms_count_law no_arms after = refl
    arms_count_law (arm f ys gs cs) after = omega (arith, length-append (points P gs after) (arms_points P cs after), points_count gs after, arms_count_law cs after)
