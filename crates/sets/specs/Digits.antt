-- The binary digit of a number at a place, as a test, and what the operations on bits do to it. Plain arithmetic: no set.
-- Assumes nothing.
use Rattle.std.specs.Prelude.{◌≡◌, refl, Bool, true, false, not, ◌&&◌, ◌||◌, ◌⊎◌, ℕ, zero, suc, ◌+◌, ◌-◌, ◌*◌, ◌/◌, ◌%◌, ◌^◌, ◌≤◌, ◌<◌, min, max}
use Rattle.std.proofs.Common.{sym, ap₂, ◌∙◌, inl, inr, mod-lt, div-add-mod', div-one, pow-suc, mul-div_cancel, lt_of_lt_of_le, one-add, arith, eqb-true, lit<, shr-shr, pow_mono}
use Rattle.std.proofs.Math.Path.{ap}
use Rattle.std.proofs.lemmas.Bool.{false≢true}
use Rattle.std.proofs.Math.Bool.{xor}
use Rattle.std.proofs.Math.Nat.{div-eq_of_lt, zero-div, mul-mod_left}
use Rattle.std.proofs.Math.Arith.{digits_mod, bin_ind}
use Rattle.std.specs.Int.Count.{count_trailing_zeros, under}
use Rattle.std.specs.Int.Bits.{bit_and, bit_or, bit_xor, differ, and_step, or_step, xor_step}
use Rattle.std.proofs.lemmas.Nat.{and_shr, or_shr, xor_shr}
use Rattle.std.proofs.Math.Dec.{eqb, eqb-zero-suc, eqb-suc-zero, eqb-suc-suc}

-- the digit of x at the place k, counted from 0, is 1
unfoldable pub bit : ℕ → ℕ → Bool
bit x k = eqb (x / 2 ^ k % 2) 1

pub bit_made : (x k : ℕ) → eqb (x / 2 ^ k % 2) 1 ≡ bit x k
unfolding bit
bit_made x k = refl

-- what holds of 0 and of 1 holds of every number below 2
below_two : (P : ℕ → Type 0) → P 0 → P 1 → (x : ℕ) → x < 2 → P x
below_two P p q zero h = p
below_two P p q (suc zero) h = q
below_two P p q (suc (suc x)) h = absurd (omega arith)

two_pos : 0 < 2
two_pos = lit< tt

-- the lowest digit of x is 0 or 1
lowest : (x : ℕ) → (x % 2 ≡ 0) ⊎ (x % 2 ≡ 1)
lowest x = below_two (λ (d : ℕ). (d ≡ 0) ⊎ (d ≡ 1)) (inl refl) (inr refl) (x % 2) (mod-lt x two_pos)

-- ---- an operation that works on each digit apart: f on two digits is g on two tests
module _ (op f : ℕ → ℕ → ℕ) (g : Bool → Bool → Bool)
    (shr : (a b k : ℕ) → op a b / 2 ^ k ≡ op (a / 2 ^ k) (b / 2 ^ k))
    (step : (a b : ℕ) → op a b ≡ op (a / 2) (b / 2) * 2 + f (a % 2) (b % 2))
    (two : (x : ℕ) → x < 2 → (y : ℕ) → y < 2 → (f x y < 2) × (eqb (f x y) 1 ≡ g (eqb x 1) (eqb y 1))) where
  bit_op : (a b k : ℕ) → bit (op a b) k ≡ g (bit a k) (bit b k)
  unfolding bit
  bit_op a b k =
      let x = a / 2 ^ k in
      let y = b / 2 ^ k in
      let h = two (x % 2) (mod-lt x two_pos) (y % 2) (mod-lt y two_pos) in
      ap (λ (n : ℕ). eqb (n % 2) 1) (shr a b k ∙ step x y) ∙ ap (λ (n : ℕ). eqb n 1) (digits_mod (op (x / 2) (y / 2)) h.0) ∙ h.1

-- a table of four entries
four : (f : ℕ → ℕ → ℕ) (g : Bool → Bool → Bool)
    → (f 0 0 < 2) × (eqb (f 0 0) 1 ≡ g false false) → (f 0 1 < 2) × (eqb (f 0 1) 1 ≡ g false true)
    → (f 1 0 < 2) × (eqb (f 1 0) 1 ≡ g true false) → (f 1 1 < 2) × (eqb (f 1 1) 1 ≡ g true true)
    → (x : ℕ) → x < 2 → (y : ℕ) → y < 2 → (f x y < 2) × (eqb (f x y) 1 ≡ g (eqb x 1) (eqb y 1))
four f g p q r s =
    below_two (λ (x : ℕ). (y : ℕ) → y < 2 → (f x y < 2) × (eqb (f x y) 1 ≡ g (eqb x 1) (eqb y 1)))
    (below_two (λ (y : ℕ). (f 0 y < 2) × (eqb (f 0 y) 1 ≡ g false (eqb y 1))) p q)
    (below_two (λ (y : ℕ). (f 1 y < 2) × (eqb (f 1 y) 1 ≡ g true (eqb y 1))) r s)

pub bit_or_law : (a b k : ℕ) → bit (bit_or a b) k ≡ (bit a k || bit b k)
bit_or_law = bit_op bit_or max ◌||◌ or_shr or_step (four max ◌||◌ (lit< tt, refl) (lit< tt, refl) (lit< tt, refl) (lit< tt, refl))

pub bit_and_law : (a b k : ℕ) → bit (bit_and a b) k ≡ (bit a k && bit b k)
bit_and_law = bit_op bit_and min ◌&&◌ and_shr and_step (four min ◌&&◌ (lit< tt, refl) (lit< tt, refl) (lit< tt, refl) (lit< tt, refl))

pub bit_xor_law : (a b k : ℕ) → bit (bit_xor a b) k ≡ xor (bit a k) (bit b k)
unfolding xor
bit_xor_law = bit_op bit_xor differ xor xor_shr xor_step (four differ xor (lit< tt, refl) (lit< tt, refl) (lit< tt, refl) (lit< tt, refl))

-- ---- one place on is half the number
pub bit_step : (x k : ℕ) → bit x (suc k) ≡ bit (x / 2) k
unfolding bit
bit_step x k = ap (λ (n : ℕ). eqb (n % 2) 1) (ap (λ (e : ℕ). x / 2 ^ e) (sym (one-add k)) ∙ sym (shr-shr x 1 k))

pub bit_low : (x : ℕ) → bit x 0 ≡ eqb (x % 2) 1
unfolding bit
bit_low x = ap (λ (n : ℕ). eqb (n % 2) 1) (div-one x)

pub bit_zero : (k : ℕ) → bit 0 k ≡ false
unfolding bit
bit_zero k = ap (λ (n : ℕ). eqb (n % 2) 1) (zero-div (2 ^ k))

-- a number of j digits has none from j on
pub bit_high : (x j k : ℕ) → x < 2 ^ j → j ≤ k → bit x k ≡ false
unfolding bit
bit_high x j k h l = ap (λ (n : ℕ). eqb (n % 2) 1) (div-eq_of_lt (lt_of_lt_of_le h (pow_mono l)))

-- a power of two has one digit
pub bit_pow : (m k : ℕ) → bit (2 ^ m) k ≡ eqb m k
bit_pow zero zero = bit_low 1
bit_pow zero (suc k) = bit_step 1 k ∙ bit_zero k ∙ sym (eqb-zero-suc k)
bit_pow (suc m) zero =
    bit_low (2 ^ suc m) ∙ ap (λ (n : ℕ). eqb n 1) (ap (λ (n : ℕ). n % 2) (pow-suc 2 m) ∙ mul-mod_left (2 ^ m) 2) ∙ sym (eqb-suc-zero m)
bit_pow (suc m) (suc k) =
    bit_step (2 ^ suc m) k
    ∙ ap (λ (n : ℕ). bit n k) (ap (λ (n : ℕ). n / 2) (pow-suc 2 m) ∙ mul-div_cancel (2 ^ m) two_pos)
    ∙ bit_pow m k
    ∙ sym (eqb-suc-suc m k)

-- ---- two numbers with the same digits are equal
parity : (x : ℕ) → x < 2 → (y : ℕ) → y < 2 → eqb x 1 ≡ eqb y 1 → x ≡ y
parity =
    below_two (λ (x : ℕ). (y : ℕ) → y < 2 → eqb x 1 ≡ eqb y 1 → x ≡ y)
    (below_two (λ (y : ℕ). false ≡ eqb y 1 → 0 ≡ y) (λ e. refl) (λ e. cc))
    (below_two (λ (y : ℕ). true ≡ eqb y 1 → 1 ≡ y) (λ e. cc) (λ e. refl))

from_half : (a b : ℕ) → a / 2 ≡ b / 2 → bit a 0 ≡ bit b 0 → a ≡ b
from_half a b e h =
    sym (div-add-mod' a 2)
    ∙ ap₂ (λ (x y : ℕ). x * 2 + y) e (parity (a % 2) (mod-lt a two_pos) (b % 2) (mod-lt b two_pos) (sym (bit_low a) ∙ h ∙ bit_low b))
    ∙ div-add-mod' b 2

halved : (a b : ℕ) → ((k : ℕ) → bit a k ≡ bit b k) → (k : ℕ) → bit (a / 2) k ≡ bit (b / 2) k
halved a b h k = sym (bit_step a k) ∙ h (suc k) ∙ bit_step b k

none : (b : ℕ) → ((k : ℕ) → bit 0 k ≡ bit b k) → 0 ≡ b
none =
    bin_ind (λ (b : ℕ). ((k : ℕ) → bit 0 k ≡ bit b k) → 0 ≡ b) (λ h. refl)
    (λ b ih h. from_half 0 b (ih (halved 0 b h)) (h 0))

pub bit_ext : (a b : ℕ) → ((k : ℕ) → bit a k ≡ bit b k) → a ≡ b
bit_ext =
    bin_ind (λ (a : ℕ). (b : ℕ) → ((k : ℕ) → bit a k ≡ bit b k) → a ≡ b) none
    (λ a ih b h. from_half a b (ih (b / 2) (halved a b h)) (h 0))

-- a number that is not 0 has a digit
abbrev Some : ℕ → Type 0
Some x = (x ≡ 0 → ⊥) → (k : ℕ) × (bit x k ≡ true)

pub bit_some : (x : ℕ) → Some x
bit_some = bin_ind Some (λ f. absurd (f refl)) (λ x ih. go x (lowest x) ih)
  where
    go : (x : ℕ) → (x % 2 ≡ 0) ⊎ (x % 2 ≡ 1) → Some (x / 2) → Some x
    go x (inl e) ih f = let r = ih (λ q. f (omega arith)) in (suc r.0, bit_step x r.0 ∙ r.1)
    go x (inr e) ih f = (0, bit_low x ∙ ap (λ (d : ℕ). eqb d 1) e)

-- ---- the complement in j digits
not_half : (P b : ℕ) → b < P * 2 → (P * 2 - 1 - b) / 2 ≡ P - 1 - b / 2
not_half P b h = omega arith

not_low : (P b : ℕ) → b < P * 2 → eqb ((P * 2 - 1 - b) % 2) 1 ≡ not (eqb (b % 2) 1)
not_low P b h = rw not_digit (flip (b % 2) (mod-lt b two_pos))
  where
    not_digit : (P * 2 - 1 - b) % 2 ≡ 1 - b % 2
    not_digit = omega arith

    flip : (x : ℕ) → x < 2 → eqb (1 - x) 1 ≡ not (eqb x 1)
    flip = below_two (λ (x : ℕ). eqb (1 - x) 1 ≡ not (eqb x 1)) refl refl

pub bit_not : (j b k : ℕ) → b < 2 ^ j → k < j → bit (2 ^ j - 1 - b) k ≡ not (bit b k)
bit_not zero b k h l = absurd (omega arith)
bit_not (suc j) b zero h l =
    bit_low (2 ^ suc j - 1 - b)
    ∙ rw pow-suc (not_low (2 ^ j) b (rw pow-suc at h))
    ∙ ap not (sym (bit_low b))
bit_not (suc j) b (suc k) h l =
    bit_step (2 ^ suc j - 1 - b) k
    ∙ ap (λ (x : ℕ). bit x k) (rw pow-suc (not_half (2 ^ j) b (rw pow-suc at h)))
    ∙ bit_not j (b / 2) k (let e : b < 2 ^ j * 2 = rw pow-suc at h in omega arith) (omega arith)
    ∙ ap not (sym (bit_step b k))

-- ---- shifts, and the lowest digit that is set
pub bit_shr : (x p i : ℕ) → bit (x / 2 ^ p) i ≡ bit x (p + i)
unfolding bit
bit_shr x p i = ap (λ (n : ℕ). eqb (n % 2) 1) (shr-shr x p i)

pub trailing_low : (j x k : ℕ) → k < count_trailing_zeros j x → bit x k ≡ false
unfolding count_trailing_zeros
trailing_low zero x k h = absurd (omega arith)
trailing_low (suc j) x k h = go (trailing_low j (x / 2)) k (lowest x) h
  where
    go : ((i : ℕ) → i < count_trailing_zeros j (x / 2) → bit (x / 2) i ≡ false) → (k : ℕ) → (x % 2 ≡ 0) ⊎ (x % 2 ≡ 1)
        → k < under (x % 2) (count_trailing_zeros j (x / 2)) → bit x k ≡ false
    go ih k (inr e) l = absurd (let z : k < 0 = rw e at l in omega arith)
    go ih zero (inl e) l = bit_low x ∙ ap (λ (d : ℕ). eqb d 1) e
    go ih (suc k) (inl e) l = bit_step x k ∙ ih k (let z : suc k < suc (count_trailing_zeros j (x / 2)) = rw e at l in omega arith)

pub trailing_here : (j x : ℕ) → count_trailing_zeros j x < j → bit x (count_trailing_zeros j x) ≡ true
unfolding count_trailing_zeros
trailing_here zero x h = absurd (omega arith)
trailing_here (suc j) x h = go (trailing_here j (x / 2)) (lowest x) h
  where
    t : ℕ
    t = count_trailing_zeros j (x / 2)

    go : (t < j → bit (x / 2) t ≡ true) → (x % 2 ≡ 0) ⊎ (x % 2 ≡ 1) → under (x % 2) t < suc j → bit x (under (x % 2) t) ≡ true
    go ih (inl e) l = rw e (bit_step x t ∙ ih (let z : suc t < suc j = rw e at l in omega arith))
    go ih (inr e) l = rw e (bit_low x ∙ ap (λ (d : ℕ). eqb d 1) e)

-- ---- one less: the lowest digit, at the place m, goes, and those above it stay
same_and : (a b c : Bool) → b ≡ c → (a && b) ≡ (a && c)
same_and a b c e = ap (λ (t : Bool). a && t) e

kept : (b : Bool) → (b && b) ≡ (b && true)
kept true = refl
kept false = refl

less_digits : (m x : ℕ) → ((j : ℕ) → j < m → bit x j ≡ false) → bit x m ≡ true → (k : ℕ) → (bit x k && bit (x - 1) k) ≡ (bit x k && not (eqb m k))
less_digits zero x f t zero =
    let o : x % 2 ≡ 1 = eqb-true (x % 2) 1 (sym (bit_low x) ∙ t) in
    let e : (x - 1) % 2 ≡ 0 = omega arith in
    same_and (bit x 0) _ _ (bit_low (x - 1) ∙ ap (λ (d : ℕ). eqb d 1) e)
less_digits zero x f t (suc k) =
    let o : x % 2 ≡ 1 = eqb-true (x % 2) 1 (sym (bit_low x) ∙ t) in
    let e : (x - 1) / 2 ≡ x / 2 = omega arith in
    let g : bit (x - 1) (suc k) ≡ bit x (suc k) = bit_step (x - 1) k ∙ ap (λ (d : ℕ). bit d k) e ∙ sym (bit_step x k) in
    same_and (bit x (suc k)) _ _ g ∙ kept (bit x (suc k)) ∙ same_and (bit x (suc k)) true (not (eqb 0 (suc k))) (ap not (sym (eqb-zero-suc k)))
less_digits (suc m) x f t zero = rw (f 0 (omega arith))
less_digits (suc m) x f t (suc k) =
    let o : x % 2 ≡ 0 = even (lowest x) in
    let e : (x - 1) / 2 ≡ x / 2 - 1 = omega arith in
    rw (bit_step x k, bit_step (x - 1) k, e, eqb-suc-suc m k)
    (less_digits m (x / 2) (λ j l. sym (bit_step x j) ∙ f (suc j) (omega arith)) (sym (bit_step x m) ∙ t) k)
  where
    even : (x % 2 ≡ 0) ⊎ (x % 2 ≡ 1) → x % 2 ≡ 0
    even (inl p) = p
    even (inr p) = absurd (false≢true (sym (f 0 (omega arith)) ∙ bit_low x ∙ ap (λ (d : ℕ). eqb d 1) p))

pub bit_less_one : (m x : ℕ) → ((j : ℕ) → j < m → bit x j ≡ false) → bit x m ≡ true → (k : ℕ) → bit (bit_and x (x - 1)) k ≡ (bit x k && not (eqb m k))
bit_less_one m x f t k = bit_and_law x (x - 1) k ∙ less_digits m x f t k
