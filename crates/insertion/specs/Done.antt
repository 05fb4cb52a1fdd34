-- What the functions of the walk promise. `c` is where they start to lay, `r` where they end; `at` the place of the first point, `p` of the next one.
use Rattle.std.specs.Prelude.{ℕ, ◌+◌, ◌*◌, List, ◌≡◌, length}
use Rattle.language.specs.Format.{next_word}
use Rattle.language.specs.File.{word}
use Rattle.language.specs.Layout.{lay}
use Rattle.language.specs.Records.{goals_tree, arms_tree}
use Rattle.language.specs.Program.{Goals, ◌before◌, signature_of}
use Rattle.language.specs.Lifetimes.{wanted, live}
use Rattle.language.specs.Answers.{program}
use Rattle.placement.specs.Local.{removes_to, local_goals, local_goal, local_arms}
use Rattle.sets.specs.declared.Set.{Set}
use Rattle.chains.specs.Formed.{goals_at, goal_at, arms_at}
use Rattle.liveness.specs.Points.{points, goal_points, arms_points}
use Rattle.liveness.specs.Counts.{goals_count, goal_count, arms_count}
use Rattle.liveness.specs.Table.{before_at, after_at}
use Rattle.tables.specs.Filled.{Owned, Belongs}
use Rattle.laying.specs.Lays.{Lays}
use Rattle.insertion.specs.Chains.{Fronts}
use Rattle.insertion.specs.declared.Cursor.{Cursor}
use Rattle.insertion.specs.Wants.{WantedFrom}

-- a part of the goal whose point is at `whole`: the removes at its start, then its goals
unfoldable pub part_of : List ℕ → List ℕ → ℕ → ℕ → ℕ → Set → Goals
part_of f t whole q i after =
    removes_to (signature_of (program f) q) (before_at t whole) (live (program f) (goals_at f i) after)
    before local_goals (program f) (signature_of (program f) q) (goals_at f i) after

module _ (f rows t : List ℕ) (i at : ℕ) (a b : List ℕ) (c r p : ℕ) where
  -- the goals from record i on
  abbrev pub GoalsLaid : Type 0
  GoalsLaid =
      (length b ≡ length a)
      × ((o : ℕ → ℕ) (q : ℕ) (after : Set) → Owned f rows o → Belongs o q i → WantedFrom (signature_of (program f) q) t at (points (program f) (goals_at f i) after)
      → Lays a b c r (lay (goals_tree (local_goals (program f) (signature_of (program f) q) (goals_at f i) after)) c) × (p ≡ at + 2 * goals_count (goals_at f i)))

  -- the goal at record i
  abbrev pub GoalLaid : Type 0
  GoalLaid =
      (length b ≡ length a)
      × ((o : ℕ → ℕ) (q : ℕ) (after : Set) → Owned f rows o → o i ≡ q → WantedFrom (signature_of (program f) q) t at (goal_points (program f) (goal_at f i) after)
      → Fronts a b c r (local_goal (program f) (signature_of (program f) q) (goal_at f i) after) (word f i next_word) × (p ≡ at + 2 * goal_count (goal_at f i)))

  -- the goals from record i on, as a part of the goal whose point is at `whole`
  abbrev pub PartLaid : ℕ → Type 0
  PartLaid whole =
      (length b ≡ length a)
      × ((o : ℕ → ℕ) (q : ℕ) (after : Set) → Owned f rows o → Belongs o q i → after_at t whole ≡ wanted (signature_of (program f) q) after
      → WantedFrom (signature_of (program f) q) t at (points (program f) (goals_at f i) after)
      → Lays a b c r (lay (goals_tree (part_of f t whole q i after)) c) × (p ≡ at + 2 * goals_count (goals_at f i)))

  -- the arms from record i on
  abbrev pub ArmsLaid : ℕ → Type 0
  ArmsLaid whole =
      (length b ≡ length a)
      × ((o : ℕ → ℕ) (q : ℕ) (after : Set) → Owned f rows o → Belongs o q i → after_at t whole ≡ wanted (signature_of (program f) q) after
      → WantedFrom (signature_of (program f) q) t at (arms_points (program f) (arms_at f i) after)
      → Lays a b c r (lay (arms_tree (local_arms (program f) (signature_of (program f) q) (arms_at f i) after (before_at t whole))) c)
      × (p ≡ at + 2 * arms_count (arms_at f i)))

-- the same as the contracts say it, where the walk stands at `c` before and at `d` behind
module _ (f rows t : List ℕ) (i : ℕ) (a b : List ℕ) (c d : Cursor) where
  abbrev pub LaysGoals : Type 0
  LaysGoals = GoalsLaid f rows t i c.point a b c.next d.next d.point

  abbrev pub LaysGoal : Type 0
  LaysGoal = GoalLaid f rows t i c.point a b c.next d.next d.point

  abbrev pub LaysPart : ℕ → Type 0
  LaysPart whole = PartLaid f rows t i c.point a b c.next d.next d.point whole

  abbrev pub LaysArms : ℕ → Type 0
  LaysArms whole = ArmsLaid f rows t i c.point a b c.next d.next d.point whole
