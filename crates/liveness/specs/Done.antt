-- What the walk has done: from c carried and the table t to d and u; w is what c has for wanted, and d too. What d has for live is live before the
-- goals, and their points were written in front of the place that c has, from the place that d has on. Number 7 is kept in d if it is in c and by
-- these goals too.
use Rattle.std.specs.Prelude.{ℕ, Bool, List, ◌≡◌}
use Rattle.sets.specs.Tests.{◌&◌}
use Rattle.sets.specs.declared.Set.{Set}
use Rattle.language.specs.Program.{signature_of}
use Rattle.language.specs.Lifetimes.{wanted, live, live_goal, live_arms, goals_classes, goal_classes, arms_classes}
use Rattle.language.specs.Answers.{program}
use Rattle.chains.specs.Formed.{goals_at, goal_at, arms_at}
use Rattle.tables.specs.Window.{Window}
use Rattle.tables.specs.Filled.{Effected, Owning, Belongs, Owned}
use Rattle.liveness.specs.Points.{point_words, points, goal_points, arms_points}
use Rattle.liveness.specs.Table.{PointsWritten, Fills}
use Rattle.liveness.specs.declared.carried.Carried.{Carried}
use Rattle.liveness.specs.Wants.{wanted_in}

-- the rows have what steps do to regions, and w has what procedure q wants
pub record Wanting (f rows w : List ℕ) (o : ℕ → ℕ) (q : ℕ) : Type 0 where
  pub ready : Owned f rows o
  pub wants : (live : Set) → wanted_in w live ≡ wanted (signature_of (program f) q) live

-- what was live behind, the place then, number 7 till then
module _ (f rows w : List ℕ) (i : ℕ) (after : Set) (end : ℕ) (x : Bool) (t : List ℕ) (d : Carried) (u : List ℕ) where
  -- for the goals from record i on, for the goal there, for the arms from there on
  pub record GoalsFrom : Type 0 where
    pub live_is : d.live ≡ live (program f) (goals_at f i) after
    pub wants_is : d.wants ≡ w
    pub fills : Fills t u d.place end (points (program f) (goals_at f i) after)
    pub classes_are : (o : ℕ → ℕ) (q : ℕ) → Wanting f rows w o q → Belongs o q i
        → d.classes ≡ (x & goals_classes (program f) (signature_of (program f) q) (goals_at f i) after)

  pub record GoalFrom : Type 0 where
    pub live_is : d.live ≡ live_goal (program f) (goal_at f i) after
    pub wants_is : d.wants ≡ w
    pub fills : Fills t u d.place end (goal_points (program f) (goal_at f i) after)
    pub classes_are : (o : ℕ → ℕ) (q : ℕ) → Wanting f rows w o q → o i ≡ q
        → d.classes ≡ (x & goal_classes (program f) (signature_of (program f) q) (goal_at f i) after)

  pub record ArmsFrom : Type 0 where
    pub live_is : d.live ≡ live_arms (program f) (arms_at f i) after
    pub wants_is : d.wants ≡ w
    pub fills : Fills t u d.place end (arms_points (program f) (arms_at f i) after)
    pub classes_are : (o : ℕ → ℕ) (q : ℕ) → Wanting f rows w o q → Belongs o q i
        → d.classes ≡ (x & arms_classes (program f) (signature_of (program f) q) (arms_at f i) after)

-- from c carried
module _ (f rows : List ℕ) (i : ℕ) (c : Carried) (t : List ℕ) (d : Carried) (u : List ℕ) where
  abbrev pub GoalsDone : Type 0
  GoalsDone = GoalsFrom f rows c.wants i c.live c.place c.classes t d u

  abbrev pub GoalDone : Type 0
  GoalDone = GoalFrom f rows c.wants i c.live c.place c.classes t d u

  abbrev pub ArmsDone : Type 0
  ArmsDone = ArmsFrom f rows c.wants i c.live c.place c.classes t d u

-- the points of a procedure's goals, from record i on, stand at the end of the table; every other place is as it was
abbrev pub ListDone : List ℕ → ℕ → Set → List ℕ → List ℕ → ℕ → Set → Type 0
ListDone f i after t u s r = (r ≡ live (program f) (goals_at f i) after) × PointsWritten t u s point_words (points (program f) (goals_at f i) after)

-- b is number 7 of its steps, where own is its window
abbrev pub ListClasses : List ℕ → List ℕ → List ℕ → ℕ → Set → Bool → Type 0
ListClasses f rows own i after b =
    (o : ℕ → ℕ) (q : ℕ) → Effected f o rows → Owning f o → Window f (signature_of (program f) q) own → Belongs o q i
    → b ≡ goals_classes (program f) (signature_of (program f) q) (goals_at f i) after
