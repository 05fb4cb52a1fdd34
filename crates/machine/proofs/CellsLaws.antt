-- Laws of `specs/Cells` that only proofs cite.
use Prim.Native.Nat.{ℕ, ◌+◌, ◌-◌, ◌*◌, ◌≤◌, ◌<◌}
use Rattle.std.specs.Prelude.{Option, Some, None}
use native.Mathlib.Omega.{arith}
use mathlib.Core.Path.{◌≡◌, refl, sym, ap, ◌∙◌}
use mathlib.Core.Bool.{Bool, true, false}
use mathlib.Core.List.{List}
use lib.Dec.{ltb}
use lib.ListN.{length, get_or, set}
use borrow.Author.Tests.{ltb-true, leb-true, lt-ltb, le-ltb, le-leb, lt-leb}
use Rattle.sets.specs.Tests.{◌&◌, and_true}
use Rattle.language.specs.Lists.{choose}
use Rattle.language.specs.File.{word}
use Rattle.language.specs.Format.{goal_x, switch_arms, term_functor, term_arguments}
use Rattle.chains.specs.Records.{chain_records}
use Rattle.memory.specs.declared.Heap.{Heap}
use Rattle.memory.specs.Memory.{cell_words, constants_from}
use Rattle.plans.specs.Plan.{sides_from}
use Rattle.word_machine.specs.Machine.{regions_from, arm_of}
use Rattle.machine.specs.GoalWords.{home_for, term_made, cells_made, regions_made, placed, functor_in, arm_for, arm_values, term_values}
use Rattle.machine.specs.Cells.{Constructs, Makes, whole_cell}

-- ---- a construct
pub home_as : (plan : List ℕ) (i k p a : ℕ) (fw : List ℕ) → p ≡ get_or fw (k + regions_from + a) 0 → a ≡ get_or plan (sides_from + i) 0 → p ≡ home_for plan i k fw
unfolding home_for
home_as plan i k p a fw e z = rw (e, z)

module _ (f plan : List ℕ) (i k : ℕ) (h : Heap) (m rs fw : List ℕ) where
  pub make_constant : (a t : ℕ) → a ≡ word f i term_arguments → a ≡ 0 → t ≡ word f i term_functor → Makes f plan i k h m rs fw (Some ((constants_from + t), h)) m rs
  unfolding term_made cells_made regions_made
  make_constant a t e z et = rw (← e, z, et) (refl, refl, refl)

  module _ (md : Option (ℕ × Heap)) (m₁ rs₁ : List ℕ) (M : Makes f plan i k h m rs fw md m₁ rs₁) where
    pub construct_none : md ≡ None → Constructs f plan i k h m rs fw None m₁ rs₁ fw
    unfolding placed
    construct_none z = (rw z at M, refl)

    pub construct_made : (y : ℕ) (l : Heap) → md ≡ Some (y, l) → (x : ℕ) (fx : List ℕ) → x ≡ word f i goal_x → fx ≡ set fw (k + x) y → Constructs f plan i k h m rs fw (Some (y, l)) m₁ rs₁ fx
    unfolding placed
    construct_made y l z x fx ex ef = (rw z at M, rw (ef, ex))

-- ---- a switch
pub whole_short : (m : List ℕ) (v : ℕ) → length m < cell_words * v + cell_words → false ≡ whole_cell m v
unfolding whole_cell ◌&◌
whole_short m v l = rw (lt-leb _ _ l)

pub whole_long : (m : List ℕ) (v : ℕ) → cell_words * v + cell_words ≤ length m → ltb v constants_from ≡ whole_cell m v
unfolding whole_cell ◌&◌
whole_long m v l = rw (le-leb _ _ l)

pub whole_is : (m : List ℕ) (v : ℕ) (b : Bool) → b ≡ whole_cell m v → b ≡ true → (v < constants_from) × (cell_words * v + cell_words ≤ length m)
unfolding whole_cell
whole_is m v b e z = let a = and_true (sym e ∙ z) in (ltb-true _ _ a.1, leb-true _ _ a.0)

-- the functor of a cell, of a constant
pub functor_cell : (m : List ℕ) (v n : ℕ) → v < constants_from → n ≡ get_or m (cell_words * v) 0 → n ≡ functor_in m v
unfolding functor_in choose
functor_cell m v n l e = let z : cell_words * v ≡ cell_words * v + 0 = omega arith in rw (lt-ltb _ _ l) (e ∙ ap (λ q. get_or m q 0) z)

pub functor_constant : (m : List ℕ) (v : ℕ) → constants_from ≤ v → v - constants_from ≡ functor_in m v
unfolding functor_in choose
functor_constant m v l = rw (le-ltb _ _ l)

module _ (f : List ℕ) (i k x v : ℕ) (m fw : List ℕ) (ev : v ≡ get_or fw (k + x) 0) (ex : x ≡ word f i goal_x) where
  pub arm_as : (n start j : ℕ) → start ≡ word f i switch_arms → n ≡ functor_in m v → j ≡ arm_of f n (chain_records f start) → j ≡ arm_for f i k m fw
  unfolding arm_for
  arm_as n start j es en ej = rw (ej, en, ev, ex, es)

  pub values_cell : (j : ℕ) (fx : List ℕ) → v < constants_from → fx ≡ arm_values f j v k m fw → fx ≡ term_values f j (get_or fw (k + word f i goal_x) 0) k m fw
  unfolding term_values choose
  values_cell j fx l e = rw (← ex, ← ev, lt-ltb _ _ l) e

  pub values_constant : (j : ℕ) → constants_from ≤ v → fw ≡ term_values f j (get_or fw (k + word f i goal_x) 0) k m fw
  unfolding term_values choose
  values_constant j l = rw (← ex, ← ev, le-ltb _ _ l)
