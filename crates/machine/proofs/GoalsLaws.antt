-- What the functions come to on each way through them, from what the functions that they call promise. P and k are the place of a frame's first word.
use Prim.Native.Nat.{ℕ, ◌+◌}
use Rattle.std.specs.Prelude.{Option, Some, None}
use mathlib.Core.Path.{◌≡◌, refl, ap, ◌∙◌}
use mathlib.Core.Bool.{Bool, true, false}
use mathlib.Core.List.{List}
use lib.IntN.{ℤ}
use lib.ListN.{get_or, set}
use mir.Syntax.{w32, w64}
use mir.Val.{SFits, to_z, of_z}
use mir.Facts.{to_z-of_z}
use Rattle.language.specs.Lists.{choose}
use Rattle.language.specs.File.{word}
use Rattle.language.specs.Format.{lifetime_region}
use Rattle.language.specs.Numbers.{in_range, less}
use Rattle.memory.specs.declared.Heap.{Heap}
use Rattle.memory.specs.Memory.{created, created_regions, removed, removed_cells, removed_regions}
use Rattle.word_machine.specs.Tables.{onto}
use Rattle.word_machine.specs.Machine.{regions_from, sum_of_words}
use Rattle.machine.specs.GoalWords.{region_for, placed}

-- ---- values
pub value_as : (P a b v : ℕ) (fw : List ℕ) → v ≡ get_or fw (P + a) 0 → a ≡ b → v ≡ get_or fw (P + b) 0
value_as P a b v fw e z = rw (e, z)

pub gives : (P x y v u : ℕ) (fw fx : List ℕ) → fx ≡ set fw (P + x) v → x ≡ y → v ≡ u → fx ≡ set fw (P + y) u
gives P x y v u fw fx e ex ev = rw (e, ex, ev)

pub sum_as : (v : ℤ) (o p y z a b : ℕ) → v ≡ sum_of_words o y z → o ≡ p → y ≡ a → z ≡ b → v ≡ sum_of_words p a b
sum_as v o p y z a b e eo ey ez = rw (e, eo, ey, ez)

-- a number is in range as it is read back from 64 bits
pub range_as : (b : Bool) (v : ℤ) → SFits w64 v → b ≡ in_range (to_z w64 (of_z w64 v)) → b ≡ in_range v
range_as b v h e = e ∙ ap in_range (to_z-of_z h)

-- a test passes
pub passes_as : (b : Bool) (y z p q : ℕ) → b ≡ less (to_z w32 y) (to_z w32 z) → y ≡ p → z ≡ q → b ≡ less (to_z w32 p) (to_z w32 q)
passes_as b y z p q e ey ez = rw (← ey, ← ez) e

-- an if's part, by what its test says
module _ (b : Bool) (y z u v x a c : ℕ) (e : b ≡ less (to_z w32 y) (to_z w32 z)) (ey : y ≡ u) (ez : z ≡ v) where
  pub part_then : b ≡ true → x ≡ a → x ≡ choose (less (to_z w32 u) (to_z w32 v)) a c
  unfolding choose
  part_then h k = rw (← ey, ← ez, ← e, h, k)

  pub part_else : b ≡ false → x ≡ c → x ≡ choose (less (to_z w32 u) (to_z w32 v)) a c
  unfolding choose
  part_else h k = rw (← ey, ← ez, ← e, h, k)

-- ---- regions
module _ (f : List ℕ) (i k : ℕ) (h : Heap) (rs fw : List ℕ) (made : Option (ℕ × Heap)) (rs₁ : List ℕ) (e : made ≡ created h rs) (er : rs₁ ≡ created_regions h rs) where
  pub create_none : made ≡ None → (None ≡ created h rs) × ((rs₁ ≡ created_regions h rs) × (fw ≡ placed (k + regions_from + word f i lifetime_region) None fw))
  unfolding placed
  create_none z = (rw (← e, z), (er, refl))

  pub create_made : (x y : ℕ) (l : Heap) (fx : List ℕ) → made ≡ Some (y, l) → fx ≡ set fw (k + regions_from + x) y → x ≡ word f i lifetime_region
      → (Some (y, l) ≡ created h rs) × ((rs₁ ≡ created_regions h rs) × (fx ≡ placed (k + regions_from + word f i lifetime_region) (Some (y, l)) fw))
  unfolding placed
  create_made x y l fx z ex ey = (rw (← e, z), (er, rw (ex, ey)))

pub region_as : (f : List ℕ) (i k p a : ℕ) (fw : List ℕ) → p ≡ get_or fw (k + regions_from + a) 0 → a ≡ word f i lifetime_region → p ≡ region_for f i k fw
unfolding region_for
region_as f i k p a fw e z = rw (e, z)

pub remove_as : (h g : Heap) (m rs m₁ rs₁ : List ℕ) (p q : ℕ) → (g ≡ removed h rs p) × (m₁ ≡ removed_cells h m rs p) × (rs₁ ≡ removed_regions h rs p) → p ≡ q
    → (g ≡ removed h rs q) × (m₁ ≡ removed_cells h m rs q) × (rs₁ ≡ removed_regions h rs q)
remove_as h g m rs m₁ rs₁ p q e z = rw (← z) e

-- the first goal of a part, or what comes after
pub onto_as : (r a b c d : ℕ) → r ≡ onto a b → a ≡ c → b ≡ d → r ≡ onto c d
onto_as r a b c d e ea eb = rw (← ea, ← eb) e
