-- Sets of numbers from 1 to 64: what the contracts of `Set` cite, and the laws by which a caller goes.
-- Above this crate a set is known by its members alone; only a computation from closed values opens the definitions.
-- Names: `X_mk` makes a member of X, `X_in` says what a member of X is.
-- Assumes nothing.
use Rattle.std.specs.Prelude.{◌≡◌, refl, Bool, true, false, ◌&&◌, ◌||◌, ◌⊎◌, ℕ, zero, suc, ◌^◌, ◌≤◌, ◌<◌, eqb, ltb}
use Rattle.std.proofs.Common.{sym, ap, ◌∙◌, inl, inr, arith, eqb-true, eq-eqb, lt-ltb, le-ltb}
use Rattle.std.proofs.Math.Bool.{xor}
use Rattle.std.proofs.Math.Decide.{dec_lt}
use Rattle.std.proofs.lemmas.Bool.{eqb-false}
use Rattle.std.specs.Int.Bits.{bit_and, bit_or, bit_xor}
use Rattle.std.proofs.Math.Dec.{eqb-suc-suc, eqb-suc-zero}
use Rattle.sets.specs.Digits.{bit, bit_or_law, bit_and_law, bit_xor_law, bit_zero, bit_pow, bit_ext, bit_high, bit_some}
use Rattle.sets.specs.Tests.{◌&◌, ◌or◌, neg, truth, clash, and_true, true_and, or_true, true_or_left, true_or_right, neg_true, true_neg}
use Rattle.sets.specs.declared.Set.{Set}

infixl 40 ◌∪◌
infixl 45 ◌∩◌
infixl 45 ◌∖◌
-- n is in s
unfoldable pub member : Set → ℕ → Bool
member s zero = false
member s (suc k) = bit s.bits k

-- `Set::EMPTY`: an abbrev, since a constant stands in a caller's goal as the record that it is
abbrev pub empty_set : Set
empty_set = record { bits = 0 }

unfoldable pub one_at : Bool → ℕ → Set
one_at true k = record { bits = 2 ^ k }
one_at false k = empty_set

-- the set of n alone; empty where n is not from 1 to 64
unfoldable pub single : ℕ → Set
single zero = empty_set
single (suc k) = one_at (ltb k 64) k

unfoldable pub ◌∪◌ : Set → Set → Set
a ∪ b = record { bits = bit_or a.bits b.bits }

unfoldable pub ◌∩◌ : Set → Set → Set
a ∩ b = record { bits = bit_and a.bits b.bits }

unfoldable pub ◌∖◌ : Set → Set → Set
a ∖ b = record { bits = bit_xor a.bits (bit_and a.bits b.bits) }

-- a and b are one set
unfoldable pub same_set : Set → Set → Bool
same_set a b = eqb a.bits b.bits

-- each member of a is one of b
unfoldable pub subset : Set → Set → Bool
subset a b = same_set (a ∖ b) empty_set

-- a and b have no common member
unfoldable pub apart : Set → Set → Bool
apart a b = same_set (a ∩ b) empty_set

-- a set kept as one word of memory; 0 is the empty set
unfoldable pub stored : Set → ℕ
stored s = s.bits

unfoldable pub loaded : ℕ → Set
loaded word = record { bits = word }

pub loaded_stored : (s : Set) → loaded (stored s) ≡ s
unfolding stored loaded
loaded_stored s = refl

pub loaded_zero : loaded 0 ≡ empty_set
unfolding loaded
loaded_zero = refl

-- ---- the members of each
pub member_pos : (s : Set) (n : ℕ) → member s n ≡ true → 1 ≤ n
unfolding member
member_pos s zero e = absurd (clash e refl)
member_pos s (suc k) e = omega arith

pub member_empty : (n : ℕ) → member empty_set n ≡ false
unfolding member
member_empty zero = refl
member_empty (suc k) = bit_zero k

pub single_zero : single 0 ≡ empty_set
unfolding single
single_zero = refl

pub single_high : (n : ℕ) → 64 < n → single n ≡ empty_set
unfolding single one_at
single_high zero h = refl
single_high (suc k) h = ap (λ (b : Bool). one_at b k) (le-ltb k 64 (omega arith))

pub member_single : (m n : ℕ) → 1 ≤ m → m ≤ 64 → member (single m) n ≡ eqb m n
unfolding member single one_at
member_single zero n h l = absurd (omega arith)
member_single (suc k) zero h l = sym (eqb-suc-zero k)
member_single (suc k) (suc n) h l =
    ap (λ (b : Bool). member (one_at b k) (suc n)) (lt-ltb k 64 (omega arith)) ∙ bit_pow k n ∙ sym (eqb-suc-suc k n)

pub single_mk : (n : ℕ) → 1 ≤ n → n ≤ 64 → member (single n) n ≡ true
single_mk n h l = member_single n n h l ∙ eq-eqb n n refl

or_is : (a b : Bool) → (a || b) ≡ (a or b)
unfolding ◌or◌
or_is true b = refl
or_is false b = refl

and_is : (a b : Bool) → (a && b) ≡ (a & b)
unfolding ◌&◌
and_is true b = refl
and_is false b = refl

less_is : (a b : Bool) → xor a (a && b) ≡ (a & neg b)
unfolding xor ◌&◌ neg
less_is true true = refl
less_is true false = refl
less_is false b = refl

pub member_union : (a b : Set) (n : ℕ) → member (a ∪ b) n ≡ (member a n or member b n)
unfolding member ◌∪◌ ◌or◌
member_union a b zero = refl
member_union a b (suc k) = bit_or_law a.bits b.bits k ∙ or_is (bit a.bits k) (bit b.bits k)

pub member_intersection : (a b : Set) (n : ℕ) → member (a ∩ b) n ≡ (member a n & member b n)
unfolding member ◌∩◌ ◌&◌
member_intersection a b zero = refl
member_intersection a b (suc k) = bit_and_law a.bits b.bits k ∙ and_is (bit a.bits k) (bit b.bits k)

pub member_difference : (a b : Set) (n : ℕ) → member (a ∖ b) n ≡ (member a n & neg (member b n))
unfolding member ◌∖◌ ◌&◌
member_difference a b zero = refl
member_difference a b (suc k) =
    bit_xor_law a.bits (bit_and a.bits b.bits) k ∙ ap (xor (bit a.bits k)) (bit_and_law a.bits b.bits k)
    ∙ less_is (bit a.bits k) (bit b.bits k)

-- ---- the same as steps from one membership to another
pub single_in : (m n : ℕ) → member (single m) n ≡ true → m ≡ n
single_in zero n e = absurd (clash e (ap (λ (s : Set). member s n) single_zero ∙ member_empty n))
single_in (suc k) n e = go (dec_lt k 64)
  where
    go : Dec (k < 64) → suc k ≡ n
    go (yes h) = eqb-true (suc k) n (sym (member_single (suc k) n (omega arith) (omega arith)) ∙ e)
    go (no f) = absurd (clash e (ap (λ (s : Set). member s n) (single_high (suc k) (omega arith)) ∙ member_empty n))

module _ (a b : Set) (n : ℕ) where
  pub union_left : member a n ≡ true → member (a ∪ b) n ≡ true
  union_left e = member_union a b n ∙ true_or_left _ e

  pub union_right : member b n ≡ true → member (a ∪ b) n ≡ true
  union_right e = member_union a b n ∙ true_or_right _ e

  pub union_in : member (a ∪ b) n ≡ true → (member a n ≡ true) ⊎ (member b n ≡ true)
  union_in e = or_true (sym (member_union a b n) ∙ e)

  pub intersection_mk : member a n ≡ true → member b n ≡ true → member (a ∩ b) n ≡ true
  intersection_mk p q = member_intersection a b n ∙ true_and p q

  pub intersection_in : member (a ∩ b) n ≡ true → (member a n ≡ true) × (member b n ≡ true)
  intersection_in e = and_true (sym (member_intersection a b n) ∙ e)

  pub difference_mk : member a n ≡ true → member b n ≡ false → member (a ∖ b) n ≡ true
  difference_mk p q = member_difference a b n ∙ true_and p (true_neg q)

  pub difference_in : member (a ∖ b) n ≡ true → (member a n ≡ true) × (member b n ≡ false)
  difference_in e = let p = and_true (sym (member_difference a b n) ∙ e) in (p.0, neg_true p.1)

-- ---- equal sets
pub member_ext : (a b : Set) → ((n : ℕ) → member a n ≡ member b n) → a ≡ b
unfolding member
member_ext a b h = ap {B = Set} (λ (x : ℕ). record { bits = x }) (bit_ext a.bits b.bits (λ k. h (suc k)))

pub same_eq : (a b : Set) → same_set a b ≡ true → a ≡ b
unfolding same_set
same_eq a b e = ap {B = Set} (λ (x : ℕ). record { bits = x }) (eqb-true a.bits b.bits e)

pub eq_same : (a b : Set) → a ≡ b → same_set a b ≡ true
unfolding same_set
eq_same a b e = eq-eqb a.bits b.bits (ap (λ (s : Set). s.bits) e)

-- a set that is not empty has a member
pub member_some : (s : Set) → same_set s empty_set ≡ false → (n : ℕ) × (member s n ≡ true)
unfolding same_set member
member_some s e = let r = bit_some s.bits (eqb-false s.bits 0 e) in (suc r.0, r.1)

-- ---- subsets
pub subset_in : (a b : Set) → subset a b ≡ true → (n : ℕ) → member a n ≡ true → member b n ≡ true
unfolding subset
subset_in a b e n m = go (truth (member b n))
  where
    go : (member b n ≡ true) ⊎ (member b n ≡ false) → member b n ≡ true
    go (inl p) = p
    go (inr q) =
        absurd (clash (difference_mk a b n m q) (ap (λ (s : Set). member s n) (same_eq (a ∖ b) empty_set e) ∙ member_empty n))

-- some member of a is none of b
pub subset_fails : (a b : Set) → subset a b ≡ false → (n : ℕ) × (member a n ≡ true) × (member b n ≡ false)
unfolding subset
subset_fails a b e =
    let r = member_some (a ∖ b) e in
    let p = difference_in a b r.0 r.1 in
    (r.0, p.0, p.1)

pub subset_mk : (a b : Set) → ((n : ℕ) → member a n ≡ true → member b n ≡ true) → subset a b ≡ true
subset_mk a b h = go (truth (subset a b))
  where
    go : (subset a b ≡ true) ⊎ (subset a b ≡ false) → subset a b ≡ true
    go (inl p) = p
    go (inr q) = let r = subset_fails a b q in absurd (clash (h r.0 r.1) r.2)

-- ---- s has no member above 64. Each set that the code holds is such: in a proof of code, `small_of_bits s (search needs)`
pub record Small (s : Set) : Type 0 where
  pub high : (n : ℕ) → 64 < n → member s n ≡ false

pub small_of_bits : (s : Set) → s.bits < 2 ^ 64 → Small s
unfolding member
small_of_bits s h = record { high = go }
  where
    go : (n : ℕ) → 64 < n → member s n ≡ false
    go zero l = refl
    go (suc k) l = bit_high s.bits 64 k h (omega arith)
