-- What `record_at` reads is record i: the match on w0 over plain values. Assumes nothing.
use Prim.Native.Nat.{ℕ, zero, suc, ◌≤◌, ◌<◌}
use native.Mathlib.Omega.{arith}
use native.Mathlib.Decide.{dec_le}
use mathlib.Core.Path.{◌≡◌, refl, sym, ap, ◌∙◌}
use mathlib.Core.List.{List}
use Rattle.language.specs.Lists.{nth}
use Rattle.language.specs.File.{word, kind_of, kinds, k_none}
use Rattle.language.specs.Format.{kind_word, test_kind}
use Rattle.records.proofs.TableLaws.{kind_high}
use Rattle.records.specs.declared.Record.{Record}
use Rattle.records.specs.declared.Record.TheVariants.{Other}
use Rattle.records.specs.Records.{record_as, record_at, record_as_law}
use Rattle.records.specs.Sizes.{kinds_end}

-- the arm of the number n
pub decoded : (f : List ℕ) (i n : ℕ) {w : ℕ} {r : Record} → w ≡ word f i kind_word → w ≡ n → r ≡ record_as (kind_of n) (word f i) → r ≡ record_at f i
decoded f i n e g h = h ∙ sym (record_as_law f i (ap kind_of (sym e ∙ g)))

-- the highest kind's number
abbrev pub last_kind : ℕ
last_kind = test_kind

-- w is none of 1 to n
abbrev pub NoneOf : ℕ → ℕ → Type 0
NoneOf zero w = Unit {0}
NoneOf (suc n) w = NoneOf n w × (w ≡ suc n → ⊥)

none_of : (n w : ℕ) → NoneOf n w → 0 < w → w ≤ n → ⊥
none_of zero w h l m = omega arith
none_of (suc n) w h l m = elim (dec_le w n) [ yes q ↦ none_of n w h.0 l q | no q ↦ h.1 (omega arith) ]

kind_zero : kind_of 0 ≡ k_none
unfolding kind_of kinds nth
kind_zero = refl

kind_none : (w : ℕ) → NoneOf last_kind w → kind_of w ≡ k_none
kind_none w h =
    elim (dec_le kinds_end w) [
      | yes q ↦ kind_high w q
      | no q ↦ (let low : 0 < w → ⊥ = λ l. none_of last_kind w h l (omega arith) in let e : w ≡ 0 = omega arith in ap kind_of e ∙ kind_zero)
    ]

-- the arm of every other number
pub decoded_none : (f : List ℕ) (i : ℕ) {w : ℕ} → w ≡ word f i kind_word → NoneOf last_kind w → Other ≡ record_at f i
decoded_none f i {w = w} e h = sym (record_as_law f i (ap kind_of (sym e) ∙ kind_none w h))
