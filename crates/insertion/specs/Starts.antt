-- The start of a part: what is removed there.
use Rattle.std.specs.Prelude.{ℕ, zero, suc, List, ◌≡◌}
use Rattle.sets.specs.Sets.{◌∖◌}
use Rattle.sets.specs.Members.{members}
use Rattle.sets.specs.declared.Set.{Set}
use Rattle.language.specs.Format.{remove_kind}
use Rattle.liveness.specs.Table.{before_at, after_at}
use Rattle.laying.specs.Lays.{Lays}
use Rattle.laying.specs.Marks.{marks}
use Rattle.insertion.specs.declared.Cursor.{Cursor}

-- the first goal of a condition and its then part in turn; 0 where both have none
unfoldable pub first_of : ℕ → ℕ → ℕ
first_of zero y = y
first_of (suc x) y = suc x

-- removes were laid at the start of a part of the goal whose point is at `whole`: from what is wanted before the goal to what is wanted at the point
-- at `at`, where goal `first` comes next, or after the whole goal, where that is none. The part goes on where `on` is not 0.
pub record StartLaid (t : List ℕ) (whole first on at : ℕ) (a b : List ℕ) (c r : ℕ) : Type 0 where
  pub removed : Set
  pub last : first ≡ 0 → removed ≡ before_at t whole ∖ after_at t whole
  pub more : (first ≡ 0 → ⊥) → removed ≡ before_at t whole ∖ before_at t at
  pub laid : Lays a b c r (marks remove_kind (members removed) on c)

-- the same as the contract says it, where the walk stands at `c` before and at `d` behind
pub record LaysStart (t : List ℕ) (whole first on : ℕ) (a b : List ℕ) (c d : Cursor) : Type 0 where
  pub point_is : d.point ≡ c.point
  pub laid : StartLaid t whole first on c.point a b c.next d.next
