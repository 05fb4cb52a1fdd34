-- What the functions come to on each way through them.
use Rattle.std.specs.Prelude.{ℕ, zero, suc, ◌+◌, ◌-◌, ◌^◌, ◌≤◌, ◌<◌, ◌≡◌, refl, List, true, false, T, ℤ, pos, negsuc, nat_abs, neg_ℤ, ◌+ℤ◌, ◌-ℤ◌, set}
use Rattle.std.proofs.Common.{arith, zero-add, add-one, sym, ap, ◌∙◌, lt-ltb, le-ltb, le-leb}
use Rattle.std.proofs.Math.Decide.{dec_lt}
use Rattle.std.proofs.lemmas.Bool.{false≢true}
use Rattle.std.proofs.Math.IntN.{sub_ℕ}
use Rattle.std.specs.Int.Signed.{mag, non_neg, le_z}
use mir.Syntax.{Width, w16, w32, w64}
use mir.Val.{Fits, SFits, bits, hbits, to_z, of_z}
use Rattle.std.proofs.Math.Facts.{to_z_pos, to_z-neg, to_z-of_z, sfits_to_z, sfits_widen}
use Rattle.sets.specs.Tests.{◌&◌, clash, true_and}
use Rattle.language.specs.Lists.{choose}
use Rattle.language.specs.Format.{max_variables}
use Rattle.language.specs.Numbers.{literal_number, residue, sum_number, in_range}
use Rattle.records.specs.Sizes.{word_end}
use Rattle.word_machine.specs.Machine.{sum_of_words, cleared, blocks}
use Rattle.word_machine.specs.Numbers.{range_fits}
use Rattle.word_machine.specs.WordLaws.{to_z_high}

-- ---- words that are cleared
pub cleared_two : (p : ℕ) (t u v : List ℕ) → u ≡ set t p 0 → v ≡ set u (p + 1) 0 → v ≡ cleared p 2 t
unfolding cleared
cleared_two p t u v e d = rw (d, e, add-one p)

cleared_append : (n m p : ℕ) (t : List ℕ) → cleared (p + n) m (cleared p n t) ≡ cleared p (n + m) t
unfolding cleared
cleared_append zero m p t =
    let e : p + 0 ≡ p = omega arith in
    let g : 0 + m ≡ m = omega arith in
    rw (e, g)
cleared_append (suc n) m p t =
    let e : p + suc n ≡ suc p + n = omega arith in
    let g : suc n + m ≡ suc (n + m) = omega arith in
    rw (e, g) (cleared_append n m (suc p) (set t p 0))

-- n words, and then m
pub cleared_join : (n m p : ℕ) (t u v : List ℕ) → u ≡ cleared p n t → v ≡ cleared (p + n) m u → v ≡ cleared p (n + m) t
cleared_join n m p t u v e d = rw (d, e) (cleared_append n m p t)

pub few_cleared : (n p : ℕ) (t u : List ℕ) → n < 9 → u ≡ cleared p 8 t → u ≡ cleared p (blocks n) t
unfolding blocks choose
few_cleared n p t u l e = rw (lt-ltb n 9 l) e

pub some_cleared : (n p : ℕ) (t u : List ℕ) → 9 ≤ n → n < 17 → u ≡ cleared p 16 t → u ≡ cleared p (blocks n) t
unfolding blocks choose
some_cleared n p t u h l e = rw (le-ltb n 9 h, lt-ltb n 17 l) e

pub all_cleared : (n p : ℕ) (t u : List ℕ) → 17 ≤ n → u ≡ cleared p max_variables t → u ≡ cleared p (blocks n) t
unfolding blocks choose
all_cleared n p t u h e = rw (le-ltb n 9 (omega arith), le-ltb n 17 h) e

-- ---- a word of the upper half, with k its complement
minus_pos : (k : ℕ) → negsuc 0 -ℤ pos k ≡ negsuc k
minus_pos zero = refl
minus_pos (suc k) = rw (zero-add k)

pub complement : (w : Width) (n k : ℕ) (v : ℤ) → k < 2 ^ 31 → v ≡ pos k → k ≡ 2 ^ bits w - suc n → 2 ^ hbits w ≤ n
    → SFits w32 (negsuc 0 -ℤ v) × (to_z w32 (of_z w32 (negsuc 0 -ℤ v)) ≡ to_z w n)
complement w n k v h e d up = rw (e, minus_pos k) (record { sfits = h }, to_z-neg w32 k h ∙ ap negsuc d ∙ sym (to_z_high w n up))

-- ---- sums and differences of 32-bit numbers, in 64 bits
difference_fits : (a b : ℕ) → a ≤ 2 ^ 32 → b ≤ 2 ^ 32 → SFits w64 (sub_ℕ a b)
difference_fits a b ha hb = go (dec_lt a b)
  where
    go : Dec (a < b) → SFits w64 (sub_ℕ a b)
    go (yes l) = simp (lt-ltb a b l) (record { sfits = omega arith })
    go (no l) = simp (le-ltb a b (omega arith)) (record { sfits = omega arith })

sum_fits : (y z : ℤ) → mag y ≤ 2 ^ 31 → mag z ≤ 2 ^ 31 → SFits w64 (y +ℤ z)
sum_fits (pos a) (pos b) ha hb = record { sfits = omega arith }
sum_fits (pos a) (negsuc b) ha hb = difference_fits a (suc b) (omega arith) (omega arith)
sum_fits (negsuc a) (pos b) ha hb = difference_fits b (suc a) (omega arith) (omega arith)
sum_fits (negsuc a) (negsuc b) ha hb = record { sfits = omega arith }

negative_fits : (z : ℤ) → mag z < 2 ^ 31 → mag (neg_ℤ z) ≤ 2 ^ 31
negative_fits (pos zero) h = omega arith
negative_fits (pos (suc n)) h = omega arith
negative_fits (negsuc n) h = h

-- a word's number as 64 bits have it
abbrev wide : ℤ → ℤ
wide r = to_z w64 (of_z w64 (to_z w32 (of_z w32 r)))

widened : (z r : ℤ) → SFits w32 z → r ≡ z → SFits w64 (to_z w32 (of_z w32 r)) × (wide r ≡ z)
widened z r h e =
    let s : SFits w64 z = sfits_widen tt h in
    rw (e, to_z-of_z h) (s, to_z-of_z s)

pub widens : (a : ℕ) (r : ℤ) → Fits w32 a → r ≡ to_z w32 a → SFits w64 (to_z w32 (of_z w32 r)) × (wide r ≡ to_z w32 a)
widens a r h e = widened (to_z w32 a) r (sfits_to_z h) e

-- ---- literals
pub literal_widens : (v : ℕ) (r : ℤ) → v < word_end → r ≡ literal_number v → SFits w64 (to_z w32 (of_z w32 r)) × (wide r ≡ literal_number v)
unfolding literal_number
literal_widens v r h e =
    let s : SFits w16 (to_z w16 v) = sfits_to_z (record { fits = h }) in
    widened (to_z w16 v) r (sfits_widen {w = w16} tt s) e

pub literal_range : (v : ℕ) → v < word_end → in_range (literal_number v) ≡ true
unfolding literal_number in_range ◌&◌
literal_range v h =
    elim (dec_lt v (2 ^ 15)) [
      | yes l ↦ rw (to_z_pos w16 l) (le-leb v 2147483647 (omega arith))
      | no l ↦ rw (to_z_high w16 v (omega (arith, l))) (true_and (le-leb (2 ^ 16 - suc v) 2147483647 (omega arith)) refl)
    ]

module _ (o a b : ℕ) (r s : ℤ) (ha : Fits w32 a) (hb : Fits w32 b) (er : r ≡ to_z w32 a) (es : s ≡ to_z w32 b) where
  pub sum_added : o ≡ 0 → SFits w64 (wide r +ℤ wide s) × (to_z w64 (of_z w64 (wide r +ℤ wide s)) ≡ sum_of_words o a b)
  unfolding sum_of_words sum_number
  sum_added e =
      let h : SFits w64 (to_z w32 a +ℤ to_z w32 b) = sum_fits (to_z w32 a) (to_z w32 b) (omega (arith, (sfits_to_z ha).sfits)) (omega (arith, (sfits_to_z hb).sfits)) in
      rw (e, (widens a r ha er).1, (widens b s hb es).1) (h, to_z-of_z h)

  pub sum_subtracted : (o ≡ 0 → ⊥) → SFits w64 (wide r -ℤ wide s) × (to_z w64 (of_z w64 (wide r -ℤ wide s)) ≡ sum_of_words o a b)
  unfolding sum_of_words sum_number
  sum_subtracted n = go o n
    where
      h : SFits w64 (to_z w32 a -ℤ to_z w32 b)
      h = sum_fits (to_z w32 a) (neg_ℤ (to_z w32 b)) (omega (arith, (sfits_to_z ha).sfits)) (negative_fits (to_z w32 b) (sfits_to_z hb).sfits)

      go : (o : ℕ) → (o ≡ 0 → ⊥) → SFits w64 (wide r -ℤ wide s) × (to_z w64 (of_z w64 (wide r -ℤ wide s)) ≡ sum_of_words o a b)
      go zero n = absurd (n refl)
      go (suc o) n = rw ((widens a r ha er).1, (widens b s hb es).1) (h, to_z-of_z h)

-- ---- numbers in range, and their words; v is the number z as it is read back from 64 bits
module _ (z v : ℤ) (e : v ≡ z) where
  pub below_range : le_z (negsuc 2147483647) v ≡ false → le_z (negsuc 2147483647) v ≡ in_range z
  unfolding in_range ◌&◌
  below_range h = rw (← e, h)

  pub above_least : le_z (negsuc 2147483647) v ≡ true → le_z v (pos 2147483647) ≡ in_range z
  unfolding in_range ◌&◌
  above_least h = rw (← e, h)

pub high_word : (z v : ℤ) → v ≡ z → in_range z ≡ true → le_z (pos 0) v ≡ true → (T (non_neg v) × Fits w32 (nat_abs v)) × (nat_abs v ≡ residue z)
unfolding residue
high_word (pos n) v e h t =
    let l = range_fits (pos n) h in
    rw e ((tt, record { fits = omega arith }), omega arith)
high_word (negsuc n) v e h t = absurd (false≢true (ap (le_z (pos 0)) (sym e) ∙ t))

pub low_word : (z v : ℤ) → v ≡ z → in_range z ≡ true → le_z (pos 0) v ≡ false → SFits w64 (v +ℤ pos 4294967296)
    × ((T (non_neg (to_z w64 (of_z w64 (v +ℤ pos 4294967296)))) × Fits w32 (nat_abs (to_z w64 (of_z w64 (v +ℤ pos 4294967296)))))
    × (nat_abs (to_z w64 (of_z w64 (v +ℤ pos 4294967296))) ≡ residue z))
unfolding residue
low_word (pos n) v e h t = absurd (clash (le-leb 0 n (omega arith)) (ap (le_z (pos 0)) (sym e) ∙ t))
low_word (negsuc n) v e h t =
    let l = range_fits (negsuc n) h in
    rw (e, le-ltb 4294967296 (suc n) (omega arith), to_z_pos w64 {n = 4294967296 - suc n} (omega arith)) (record { sfits = omega arith }, ((tt, record { fits = omega arith }), omega arith))
