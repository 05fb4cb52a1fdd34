-- Along a chain of goals: what was laid, and what is left.
use Rattle.std.specs.Prelude.{ℕ, ◌+◌, ◌*◌, ◌≤◌, List, ◌≡◌, length}
use Rattle.sets.specs.declared.Set.{Set}
use Rattle.language.specs.File.{goals}
use Rattle.language.specs.Layout.{lay}
use Rattle.language.specs.Records.{goals_tree}
use Rattle.language.specs.Program.{signature_of}
use Rattle.language.specs.Answers.{program}
use Rattle.placement.specs.Local.{local_goals}
use Rattle.chains.specs.Formed.{Stands, ahead, goals_at}
use Rattle.chains.specs.Shapes.{IsSwitch, IsIf, IsTry}
use Rattle.liveness.specs.Points.{points}
use Rattle.liveness.specs.Counts.{goals_count}
use Rattle.tables.specs.Filled.{Owned, Belongs}
use Rattle.laying.specs.Lays.{Lays}
use Rattle.insertion.specs.declared.Cursor.{Cursor}
use Rattle.insertion.specs.Wants.{WantedFrom}

-- the goal at record i has parts, where there is one
abbrev pub HasParts : List ℕ → ℕ → Type 0
HasParts f i = (i ≡ 0 → ⊥) → (IsSwitch f i → ⊥) → (IsIf f i → ⊥) → IsTry f i

-- the goals from record start on were to be laid from place first on; what is left are those from record i on, from place c on
module _ (f rows t : List ℕ) (start at₀ : ℕ) (a b : List ℕ) (first i at c : ℕ) where
  pub record Left (o : ℕ → ℕ) (q : ℕ) (after : Set) : Type 0 where
    pub belongs : Belongs o q i
    pub wants : WantedFrom (signature_of (program f) q) t at (points (program f) (goals_at f i) after)
    pub count : at + 2 * goals_count (goals_at f i) ≡ at₀ + 2 * goals_count (goals_at f start)
    pub laid : (d : List ℕ) (e : ℕ) → Lays b d c e (lay (goals_tree (local_goals (program f) (signature_of (program f) q) (goals_at f i) after)) c)
        → Lays a d first e (lay (goals_tree (local_goals (program f) (signature_of (program f) q) (goals_at f start) after)) first)

  pub record LaidAlong : Type 0 where
    pub stands : Stands f goals i
    pub near : ahead f i ≤ ahead f start
    pub same : length b ≡ length a
    pub rest : (o : ℕ → ℕ) (q : ℕ) (after : Set) → Owned f rows o → Belongs o q start
        → WantedFrom (signature_of (program f) q) t at₀ (points (program f) (goals_at f start) after) → Left o q after

-- the same as the contract says it, where the walk stands at `c` before and at `d` behind
abbrev pub LaysAlong : (f rows t : List ℕ) (start i : ℕ) (a b : List ℕ) (c d : Cursor) → Type 0
LaysAlong f rows t start i a b c d = LaidAlong f rows t start c.point a b c.next i d.point d.next
