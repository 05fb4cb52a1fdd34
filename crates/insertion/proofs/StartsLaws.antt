-- Laws of `specs/Starts` that only proofs cite.
use Prim.Native.Nat.{ℕ, zero, suc}
use mathlib.Core.List.{List}
use mathlib.Core.Path.{◌≡◌, refl}
use Rattle.sets.specs.Sets.{◌∖◌}
use Rattle.sets.specs.Members.{members}
use Rattle.sets.specs.declared.Set.{Set}
use Rattle.language.specs.Format.{remove_kind}
use Rattle.liveness.specs.Table.{before_at, after_at}
use Rattle.laying.specs.Lays.{Lays}
use Rattle.laying.specs.Marks.{marks}
use Rattle.insertion.specs.declared.Cursor.{Cursor}
use Rattle.insertion.specs.Starts.{first_of, LaysStart}

pub first_none : {x : ℕ} (y : ℕ) → x ≡ 0 → y ≡ first_of x y
unfolding first_of
first_none y z = rw z refl

pub first_some : (x y : ℕ) → (x ≡ 0 → ⊥) → x ≡ first_of x y
unfolding first_of
first_some zero y z = absurd (z refl)
first_some (suc x) y z = refl

pub lays_start : (t : List ℕ) (whole first on : ℕ) {a b : List ℕ} {c : Cursor} {n : ℕ} {rs : Set} → (first ≡ 0 → rs ≡ before_at t whole ∖ after_at t whole)
    → ((first ≡ 0 → ⊥) → rs ≡ before_at t whole ∖ before_at t c.point) → Lays a b c.next n (marks remove_kind (members rs) on c.next)
    → LaysStart t whole first on a b c (record c { next = n })
lays_start t whole first on x y L = record { point_is = refl; laid = record { removed = _; last = x; more = y; laid = L } }
