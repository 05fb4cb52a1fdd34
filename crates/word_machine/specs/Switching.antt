-- A switch: X's word is a place or a constant; the arm's arguments get the words of X's cell, up to the first that is numbered 0.
use Prim.Native.Nat.{ℕ, zero, suc, ◌+◌, ◌-◌, ◌*◌, ◌≤◌, ◌<◌}
use native.Mathlib.Omega.{arith}
use Rattle.std.specs.Prelude.{◌≡◌, ◌⊎◌, length, get_or, set}
use Rattle.std.proofs.Math.Path.{refl}
use Rattle.std.proofs.Common.{◌∙◌, inl, inr, lt-ltb, le-ltb}
use mathlib.Core.List.{List, [], ◌∷◌}
use Rattle.std.proofs.Math.ListN.{length-set}
use Rattle.std.proofs.Math.Seq.{get_or-set_other}
use Rattle.sets.specs.Members.{cons_here}
use Rattle.language.specs.Lists.{put}
use Rattle.language.specs.Program.{four_words, trim_onto, trimmed}
use Rattle.language.specs.Frames.{Value, give_each}
use Rattle.language.specs.Format.{max_variables}
use Rattle.memory.specs.Memory.{constants_from, cell_word}
use Rattle.heap.specs.Words.{argument_words, arguments_are}
use Rattle.heap.specs.Standing.{StandEach}
use Rattle.chains.specs.Parts.{four_at}
use Rattle.chains.specs.Records.{chain_records}
use Rattle.word_machine.specs.Tables.{Tables}
use Rattle.word_machine.specs.Machine.{frame_words, MachineWords, with_frames, arm_of, gives_each, arm_words, enters_arm, switches_on, switches}
use Rattle.word_machine.specs.Copies.{set_related}
use Rattle.word_machine.specs.Trimmed.{RangedMembers, ranged_rest, none_behind}
use Rattle.word_machine.specs.Relation.{Where, Means}

-- ---- which of the two X's word is
module _ (f : List ℕ) (T : Tables) (w : MachineWords) (v cs : ℕ) where
  pub switch_place : v < constants_from → switches f T w v cs ≡ enters_arm f T w v (arm_of f (cell_word w.cells v 0) (chain_records f cs))
  unfolding switches switches_on
  switch_place l = rw (lt-ltb v constants_from l)

  pub switch_constant : (k : ℕ) → v ≡ constants_from + k → switches f T w v cs ≡ with_frames w w.frames (T.entry (arm_of f k (chain_records f cs)))
  unfolding switches switches_on
  switch_constant k e = let z : v - constants_from ≡ k = omega arith in rw (le-ltb v constants_from (omega arith), z)

-- ---- the words of X's cell
pub arm_each : (f : List ℕ) (T : Tables) (w : MachineWords) (p j : ℕ)
    → arm_words f T w p j ≡ gives_each (frame_words * w.top) (four_words (four_at f j)) (argument_words w.cells p) w.frames
unfolding arm_words four_words
arm_each f T w p j = rw (arguments_are w.cells p)

pub each_length : (base : ℕ) (ys ws fw : List ℕ) → length (gives_each base ys ws fw) ≡ length fw
unfolding gives_each
each_length base [] ws fw = refl
each_length base (y ∷ ys) [] fw = refl
each_length base (zero ∷ ys) (w ∷ ws) fw = refl
each_length base (suc y ∷ ys) (w ∷ ws) fw = each_length base ys ws (set fw (base + suc y) w) ∙ length-set fw (base + suc y) w

-- values that are none change none
pub give_none : (ys : List ℕ) (t : ℕ → Value) → give_each ys [] t ≡ t
unfolding give_each
give_none [] t = refl
give_none (y ∷ ys) t = refl

module _ (base : ℕ) where
  -- ---- words that are no variable's stay
  pub each_other : (ys ws fw : List ℕ) (j : ℕ) → RangedMembers (trimmed ys) → (j < base) ⊎ (base + max_variables < j) → get_or (gives_each base ys ws fw) j 0 ≡ get_or fw j 0
  unfolding gives_each trimmed trim_onto
  each_other [] ws fw j r o = refl
  each_other (y ∷ ys) [] fw j r o = refl
  each_other (zero ∷ ys) (w ∷ ws) fw j r o = refl
  each_other (suc y ∷ ys) (w ∷ ws) fw j r o =
      each_other ys ws (set fw (base + suc y) w) j (ranged_rest y (trimmed ys) r) o
      ∙ get_or-set_other fw (base + suc y) j w 0 (λ z. differ z (r (suc y) (cons_here (suc y) (suc y) (trimmed ys) refl)).1 o)
    where
      differ : j ≡ base + suc y → suc y ≤ max_variables → (j < base) ⊎ (base + max_variables < j) → ⊥
      differ z l (inl o) = omega arith
      differ z l (inr o) = omega arith

  -- ---- the words of the variables stand for what they are given
  module _ (L : Where) (x : ℕ) where
    pub each_means : (ys ws : List ℕ) (vs : List Value) (fw : List ℕ) (t : ℕ → Value) → length ys ≤ length ws → base + max_variables < length fw
        → StandEach L.cell_at L.cells ws vs → length vs ≡ length (trimmed ys) → RangedMembers (trimmed ys) → Means L (get_or fw (base + x) 0) (t x)
        → Means L (get_or (gives_each base ys ws fw) (base + x) 0) (give_each (trimmed ys) vs t x)
    unfolding trimmed trim_onto gives_each give_each StandEach
    each_means [] ws vs fw t k l s e r h = h
    each_means (y ∷ ys) [] vs fw t k l s e r h = absurd (omega arith)
    each_means (zero ∷ ys) (w ∷ ws) vs fw t k l s e r h = rw (none_behind (trimmed ys) r) h
    each_means (suc y ∷ ys) (w ∷ ws) [] fw t k l s e r h = absurd (omega arith)
    each_means (suc y ∷ ys) (w ∷ ws) (v ∷ vs) fw t k l s e r h =
        let q = r (suc y) (cons_here (suc y) (suc y) (trimmed ys) refl) in
        each_means ys ws vs (set fw (base + suc y) w) (put t (suc y) v) (omega arith) (omega (arith, length-set fw (base + suc y) w)) s.1 (omega arith)
        (ranged_rest y (trimmed ys) r) (set_related (Means L) base fw (suc y) w v t x (omega (arith, q.1)) s.0 h)
