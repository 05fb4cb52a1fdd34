-- The digits that the table in code has for the words of a record beside w1.
use Rattle.std.specs.Prelude.{ℕ, zero, suc, ◌+◌, ◌*◌, ◌/◌, ◌%◌, ◌≤◌, ◌<◌, true, ◌≡◌, length, get_or}
use native.Mathlib.Omega.{arith}
use Rattle.std.proofs.Math.Decide.{dec_lt}
use mathlib.Core.List.{List, [], ◌∷◌, map}
use Rattle.std.proofs.Common.{inl, inr}
use Rattle.std.proofs.Math.Path.{refl}
use Rattle.sets.specs.Members.{in_list, nil_in, cons_in}
use Rattle.language.specs.Lists.{nth}
use Rattle.language.specs.Format.{kind_word, record_bytes}
use Rattle.language.specs.File.{Kind, k_none, Use, number, unused, first, row, kinds, kind_of, word, record_count}
use Rattle.laws.specs.Lists.{nth_past}
use Rattle.records.specs.Sizes.{record_words, kinds_end, digit_end}
use Rattle.records.specs.Table.{table_of}
use Rattle.chains.specs.Layout.{row_length}
use Rattle.chains.specs.Formed.{Formed, counted}
use Rattle.owners.specs.Handed.{leading_words, part_words, digits}
use Rattle.owners.specs.Handing.{known}

-- ---- a table by the kinds' numbers
at_kind : (p : Kind → ℕ) (ks : List Kind) (n : ℕ) → n < length ks → get_or (map p ks) n 0 ≡ p (nth k_none ks n)
unfolding nth
at_kind p [] n h = absurd (omega arith)
at_kind p (k ∷ ks) zero h = refl
at_kind p (k ∷ ks) (suc n) h = at_kind p ks n (omega arith)

pub table_kind : (p : Kind → ℕ) {t : List ℕ} {n : ℕ} → t ≡ table_of p → n < kinds_end → get_or t n 0 ≡ p (kind_of n)
unfolding table_of kind_of kinds
table_kind p {t} {n} e l = rw e (at_kind p kinds n l)

-- .. has a place for the kind of every record
pub kind_low : {f : List ℕ} → Formed f → (i : ℕ) → i < record_count f → word f i kind_word < kinds_end
unfolding kind_of kinds
kind_low {f} F i q = elim (dec_lt (word f i kind_word) kinds_end) [ yes l ↦ l | no l ↦ absurd (known F i q (nth_past k_none kinds (word f i kind_word) (omega arith))) ]

-- a file has its records whole
pub record_room : {f : List ℕ} → Formed f → (i : ℕ) → i < record_count f → record_bytes * i + record_bytes ≤ length f
record_room F i q = omega (arith, (counted F).bytes)

-- ---- a record's words beside w1 are from 2 to 7
words_from_law : (us : List Use) (b k : ℕ) → in_list k (leading_words b us) ≡ true → (b ≤ k) × (k < b + length us)
unfolding leading_words
words_from_law [] b k i = absurd (nil_in k i)
words_from_law (number ∷ us) b k i = let h = words_from_law us (suc b) k i in (omega arith, omega arith)
words_from_law (unused ∷ us) b k i = let h = words_from_law us (suc b) k i in (omega arith, omega arith)
words_from_law (first c ∷ us) b k i = elim (cons_in k b (leading_words (suc b) us) i) [
  | inl e ↦ (omega arith, omega arith)
  | inr m ↦ (let h = words_from_law us (suc b) k m in (omega arith, omega arith))
]

pub part_range : (K : Kind) (k : ℕ) → in_list k (part_words K) ≡ true → (2 ≤ k) × (k < record_words)
unfolding part_words
part_range K k i = let h = words_from_law (row K).words 2 k i in (h.0, omega (arith, row_length K))

-- ---- digits
pub digits_none : digits [] ≡ 0
unfolding digits
digits_none = refl

module _ (k : ℕ) (ks : List ℕ) (some : 2 ≤ k) (small : k < record_words) where
  pub digits_some : digits (k ∷ ks) ≡ 0 → ⊥
  unfolding digits
  digits_some e = omega arith

  pub digits_first : digits (k ∷ ks) % digit_end ≡ k
  unfolding digits
  digits_first = omega arith

  pub digits_rest : digits (k ∷ ks) / digit_end ≡ digits ks
  unfolding digits
  digits_rest = omega arith
