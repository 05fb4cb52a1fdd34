-- What the code of `Set` computes is what the definitions say: cited by this crate's proofs alone.
-- Assumes nothing.
use Rattle.std.specs.Prelude.{◌≡◌, refl, Bool, true, false, not, ◌&&◌, ℕ, zero, suc, ◌+◌, ◌-◌, ◌*◌, ◌/◌, ◌%◌, ◌^◌, ◌≤◌, ◌<◌, eqb}
use Rattle.std.proofs.Common.{sym, ◌∙◌, one-mul, div-one, lt-ltb, lit<, shl_exact}
use Rattle.std.proofs.Math.Path.{ap}
use Rattle.std.proofs.Math.Decide.{dec_lt}
use native.Mathlib.Omega.{arith}
use Rattle.std.proofs.lemmas.Bool.{eqb-false}
use Rattle.std.specs.Int.Bits.{bit_and, bit_or}
use Rattle.std.proofs.lemmas.Nat.{and_mask, trailing_le}
use Rattle.std.specs.Int.Count.{count_trailing_zeros}
use Rattle.std.proofs.Math.Dec.{eqb-suc-suc}
use Rattle.sets.specs.Digits.{bit, bit_made, bit_and_law, bit_high, bit_not, bit_shr, bit_less_one, trailing_low, trailing_here}
use Rattle.sets.specs.Tests.{◌&◌, neg}
use Rattle.sets.specs.Sets.{member, empty_set, one_at, single, ◌∪◌, ◌∩◌, ◌∖◌, same_set, subset, single_zero, single_high, member_ext, member_single, member_difference, stored, loaded}
use Rattle.sets.specs.Walk.{Next}
use Rattle.sets.specs.declared.Set.{Set}

abbrev set : ℕ → Set
set x = record { bits = x }

pred_suc : (m : ℕ) → suc m - 1 ≡ m
pred_suc m = omega arith

pub of_low : (n : ℕ) → n < 1 → empty_set ≡ single n
of_low zero h = sym single_zero
of_low (suc k) h = absurd (omega arith)

pub of_high : (n : ℕ) → 64 < n → empty_set ≡ single n
of_high n h = sym (single_high n h)

pub of_made : (n : ℕ) → 1 ≤ n → n ≤ 64 → set (1 * 2 ^ (n - 1) % 2 ^ 64) ≡ single n
unfolding single one_at
of_made zero h l = absurd (omega arith)
of_made (suc k) h l =
    ap set (shl_exact 1 (suc k - 1) 64 (lit< tt) (omega arith) ∙ one-mul (2 ^ (suc k - 1)) ∙ ap (λ (e : ℕ). 2 ^ e) (pred_suc k))
    ∙ ap (λ (b : Bool). one_at b k) (sym (lt-ltb k 64 (omega arith)))

pub union_made : (a b : Set) → set (bit_or a.bits b.bits) ≡ a ∪ b
unfolding ◌∪◌
union_made a b = refl

pub intersection_made : (a b : Set) → set (bit_and a.bits b.bits) ≡ a ∩ b
unfolding ◌∩◌
intersection_made a b = refl

pub stored_made : (s : Set) → s.bits ≡ stored s
unfolding stored
stored_made s = refl

pub loaded_made : (word : ℕ) → set word ≡ loaded word
unfolding loaded
loaded_made word = refl

pub same_made : (a b : Set) → eqb a.bits b.bits ≡ same_set a b
unfolding same_set
same_made a b = refl

pub subset_made : (a b : Set) → same_set (a ∖ b) empty_set ≡ subset a b
unfolding subset
subset_made a b = refl

less_is : (a b : Bool) → (a && not b) ≡ (a & neg b)
unfolding ◌&◌ neg
less_is true true = refl
less_is true false = refl
less_is false b = refl

-- `x & !y` at 64 digits
bit_less : (x y k : ℕ) → x < 2 ^ 64 → y < 2 ^ 64 → bit (bit_and x (2 ^ 64 - 1 - y)) k ≡ (bit x k & neg (bit y k))
bit_less x y k hx hy = bit_and_law x (2 ^ 64 - 1 - y) k ∙ go (dec_lt k 64) ∙ less_is (bit x k) (bit y k)
  where
    go : Dec (k < 64) → (bit x k && bit (2 ^ 64 - 1 - y) k) ≡ (bit x k && not (bit y k))
    go (yes h) = ap (λ (t : Bool). bit x k && t) (bit_not 64 y k hy h)
    go (no f) = rw (bit_high x 64 k hx (omega arith)) refl

pub difference_made : (a b : Set) → a.bits < 2 ^ 64 → b.bits < 2 ^ 64 → set (bit_and a.bits (2 ^ 64 - 1 - b.bits)) ≡ a ∖ b
unfolding member ◌&◌
difference_made a b ha hb = member_ext (set (bit_and a.bits (2 ^ 64 - 1 - b.bits))) (a ∖ b) go
  where
    go : (n : ℕ) → member (set (bit_and a.bits (2 ^ 64 - 1 - b.bits))) n ≡ member (a ∖ b) n
    go zero = sym (member_difference a b zero)
    go (suc k) = bit_less a.bits b.bits k ha hb ∙ sym (member_difference a b (suc k))

pub member_made : (s : Set) (n : ℕ) → 1 ≤ n → eqb (bit_and (s.bits / 2 ^ (n - 1)) 1) 1 ≡ member s n
unfolding member
member_made s zero h = absurd (omega arith)
member_made s (suc k) h =
    ap (λ (x : ℕ). eqb x 1) (and_mask (s.bits / 2 ^ (suc k - 1)) 1) ∙ bit_made s.bits (suc k - 1) ∙ ap (bit s.bits) (pred_suc k)

-- `trailing_zeros` from the place n on: the number n + 1 and those above it
module _ (s : Set) (n : ℕ) where
  abbrev zeros : ℕ
  zeros = count_trailing_zeros 64 (s.bits / 2 ^ n)

  at_place : (k : ℕ) → n ≤ k → bit (s.bits / 2 ^ n) (k - n) ≡ member s (suc k)
  unfolding member
  at_place k h = bit_shr s.bits n (k - n) ∙ ap (bit s.bits) (let e : n + (k - n) ≡ k = omega arith in e)

  pub after_low : (k : ℕ) → n < k → k < n + 1 + zeros → member s k ≡ false
  after_low zero h l = absurd (omega arith)
  after_low (suc k) h l = sym (at_place k (omega arith)) ∙ trailing_low 64 (s.bits / 2 ^ n) (k - n) (omega arith)

  pub after_here : zeros < 64 → member s (n + 1 + zeros) ≡ true
  after_here h =
      ap (member s) (let e : n + 1 + zeros ≡ suc (n + zeros) = omega arith in e)
      ∙ sym (at_place (n + zeros) (omega arith))
      ∙ ap (bit (s.bits / 2 ^ n)) (let e : n + zeros - n ≡ zeros = omega arith in e)
      ∙ trailing_here 64 (s.bits / 2 ^ n) h

-- the lowest digit, and the number without it
pub lowest_next : (s : Set) (r : ℕ) → r ≡ 1 + count_trailing_zeros 64 s.bits → Next s 0 r
lowest_next s r e =
    let z : count_trailing_zeros 64 (s.bits / 2 ^ 0) ≡ count_trailing_zeros 64 s.bits = ap (count_trailing_zeros 64) (div-one s.bits) in
    let t = trailing_le 64 s.bits in
    let q : r ≡ 0 + 1 + count_trailing_zeros 64 (s.bits / 2 ^ 0) = omega arith in
    record { low = omega arith; top = omega arith; none = λ k h l. after_low s 0 k h (omega arith); found = λ l. ap (member s) q ∙ after_here s 0 (omega arith) }

pub some_bits : (s : Set) → same_set s empty_set ≡ false → 1 ≤ s.bits
unfolding same_set
some_bits s e = omega (arith, eqb-false s.bits 0 e)

pub rest_made : (s : Set) (r : ℕ) → Next s 0 r → r < 65 → set (bit_and s.bits (s.bits - 1)) ≡ s ∖ single r
unfolding member ◌&◌
rest_made s zero N l = absurd (let z = N.low in omega arith)
rest_made s (suc m) N l = member_ext (set (bit_and s.bits (s.bits - 1))) (s ∖ single (suc m)) go
  where
    low : (j : ℕ) → j < m → bit s.bits j ≡ false
    low j h = N.none (suc j) (omega arith) (omega arith)

    here : bit s.bits m ≡ true
    here = N.found l

    go : (n : ℕ) → member (set (bit_and s.bits (s.bits - 1))) n ≡ member (s ∖ single (suc m)) n
    go zero = sym (member_difference s (single (suc m)) zero)
    go (suc k) =
        bit_less_one m s.bits low here k ∙ less_is (bit s.bits k) (eqb m k)
        ∙ ap (λ (b : Bool). bit s.bits k & neg b) (sym (eqb-suc-suc m k) ∙ sym (member_single (suc m) (suc k) (omega arith) (omega arith)))
        ∙ sym (member_difference s (single (suc m)) (suc k))
