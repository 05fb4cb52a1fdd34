-- The steps of number 2's code over plain values: a reference, a word by its use, the words that must be 0. Assumes nothing.
use Prim.Native.Nat.{ℕ, ◌+◌, ◌%◌, ◌≤◌, ◌<◌}
use native.Mathlib.Omega.{arith}
use mathlib.Core.Path.{◌≡◌, refl, sym, ap, ◌∙◌}
use mathlib.Core.Bool.{Bool, true, false, false≢true}
use mathlib.Core.List.{List}
use lib.Dec.{eqb, leb}
use borrow.Author.Tests.{eq-eqb, ne_eqb, lt-ltb, le-ltb, lt-leb, le-leb, eqb-true}
use Rattle.sets.specs.Tests.{◌&◌, ◌or◌, same_truth}
use Rattle.language.specs.File.{Chain, Use, number, unused, first, Kind, row, kind_of, kind_at, code, stands_in, reference_ok}
use Rattle.records.specs.Lists.{counted, tally}
use Rattle.records.specs.Table.{digit, packed, uses, low_most, high_most}
use Rattle.records.proofs.TableLaws.{pack_first}
use Rattle.records.specs.Form.{Tallied, use_ok, leads, spare_ok}
use Rattle.records.specs.Spare.{LowWords, HighWords}
use Rattle.records.proofs.FormLaws.{zeros_small}
use Rattle.records.specs.Sizes.{digit_end}

packed_chain : (k : Kind) → packed k % digit_end ≡ digit (first (row k).chain)
unfolding packed
packed_chain k = pack_first (first (row k).chain) (uses (row k))

-- chains are the same where their digits are
same_digit : (a b : ℕ) → eqb (1 + a) (1 + b) ≡ eqb a b
same_digit a b =
    same_truth
    (λ e. let z : 1 + a ≡ 1 + b = eqb-true _ _ e in eq-eqb a b (omega arith))
    (λ e. let z : a ≡ b = eqb-true _ _ e in eq-eqb (1 + a) (1 + b) (omega arith))

module _ (W : ℕ → ℕ → ℕ) (n i : ℕ) (c : Chain) (r : ℕ) where
  pub reference_end : r ≡ 0 → true ≡ reference_ok W n i c r
  unfolding reference_ok ◌or◌
  reference_end e = rw (eq-eqb r 0 e)

  pub reference_low : (r ≡ 0 → ⊥) → r ≤ i → false ≡ reference_ok W n i c r
  unfolding reference_ok ◌or◌ ◌&◌
  reference_low z h = rw (ne_eqb r 0 z, le-ltb i r h)

  pub reference_past : (r ≡ 0 → ⊥) → i < r → n ≤ r → false ≡ reference_ok W n i c r
  unfolding reference_ok ◌or◌ ◌&◌
  reference_past z h l = rw (ne_eqb r 0 z, lt-ltb i r h, le-ltb r n l)

  reference_up : (r ≡ 0 → ⊥) → i < r → r < n → reference_ok W n i c r ≡ stands_in c (kind_of (W r 0))
  unfolding reference_ok kind_at ◌or◌ ◌&◌
  reference_up z h l = rw (ne_eqb r 0 z, lt-ltb i r h, lt-ltb r n l)

  pub reference_chain : {w p d : ℕ} → (r ≡ 0 → ⊥) → i < r → r < n → w ≡ W r 0 → p ≡ packed (kind_of w) → d ≡ digit (first c)
      → eqb (p % digit_end) d ≡ reference_ok W n i c r
  unfolding stands_in digit
  reference_chain {w = w} z h l a b e =
      rw (b, packed_chain (kind_of w), e, same_digit (code (row (kind_of w)).chain) (code c), a) (sym (reference_up z h l))

module _ (W : ℕ → ℕ → ℕ) (n i k : ℕ) (seen : List ℕ) where
  -- a word that is no reference
  pub use_none : {d : ℕ} (u : Use) → d ≡ 0 → d ≡ digit u → Tallied true (use_ok W n i k u) (leads W n i k u) seen seen
  unfolding use_ok leads digit tally
  use_none number z e = record { says = refl; counts = λ _. refl }
  use_none unused z e = record { says = refl; counts = λ _. refl }
  use_none (first c) z e = absurd (omega arith)

  -- what a reference's test says
  abbrev pub Said : ℕ → ℕ → Bool → Type 0
  Said d w b = (c : Chain) → d ≡ digit (first c) → b ≡ reference_ok W n i c w

  pub use_refused : {d w : ℕ} {b : Bool} (u : Use) → (d ≡ 0 → ⊥) → w ≡ W i k → Said d w b → b ≡ false → d ≡ digit u
      → Tallied false (use_ok W n i k u) (leads W n i k u) seen seen
  unfolding use_ok leads digit
  use_refused number z a s f e = absurd (omega arith)
  use_refused unused z a s f e = absurd (omega arith)
  use_refused (first c) z a s f e =
      record { says = sym f ∙ s c e ∙ ap (reference_ok W n i c) a; counts = λ t. absurd (false≢true t) }

  pub use_counted : {d w : ℕ} {b : Bool} {after : List ℕ} (u : Use) → (d ≡ 0 → ⊥) → w ≡ W i k → Said d w b → b ≡ true
      → after ≡ counted seen w → d ≡ digit u → Tallied true (use_ok W n i k u) (leads W n i k u) seen after
  unfolding use_ok leads digit tally
  use_counted number z a s t g e = absurd (omega arith)
  use_counted unused z a s t g e = absurd (omega arith)
  use_counted (first c) z a s t g e =
      record { says = sym t ∙ s c e ∙ ap (reference_ok W n i c) a; counts = λ _. g ∙ ap (counted seen) a }

-- ---- the words that must be 0
module _ (W : ℕ → ℕ → ℕ) (i : ℕ) {w a b p : ℕ} (e : w ≡ W i 0) (l : LowWords (W i) a) (h : HighWords (W i) b) (g : p ≡ low_most (kind_of w)) where
  spare_by : spare_ok W i ≡ (leb a p & leb b (high_most (kind_of w)))
  unfolding spare_ok
  spare_by = rw (g, e) (zeros_small W i l h (kind_of (W i 0)))

  pub spare_low : p < a → false ≡ spare_ok W i
  unfolding ◌&◌
  spare_low m = sym (spare_by ∙ rw (lt-leb a p m))

  pub spare_high : {q : ℕ} → a ≤ p → q ≡ high_most (kind_of w) → leb b q ≡ spare_ok W i
  unfolding ◌&◌
  spare_high m f = ap (leb b) f ∙ sym (spare_by ∙ rw (le-leb a p m))
