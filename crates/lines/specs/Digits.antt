-- The decimal digits of a number, the last one split off, and how many there are.
use Rattle.std.specs.Prelude.{ℕ, zero, suc, ◌+◌, ◌*◌, ◌/◌, ◌%◌, ◌^◌, ◌≤◌, ◌<◌, List, [], ◌∷◌, ◌++◌, ◌≡◌, refl, length, set}
use Rattle.std.proofs.Common.{append_assoc, ap, sym, ◌∙◌, arith, add-one, length-append}
use Rattle.std.proofs.Math.Numerals.{unary_clauses}
use Rattle.language.specs.Output.{digits_onto, decimal}
use Rattle.lines.specs.Put.{Put, put_none, put_one, put_then}

-- the digits of n, none for 0
unfoldable pub digits : ℕ → List ℕ
digits n = digits_onto n n []

-- digits go in front
onto : (f n : ℕ) (ds : List ℕ) → digits_onto f n ds ≡ digits_onto f n [] ++ ds
unfolding digits_onto
onto zero n ds = refl
onto (suc f) zero ds = refl
onto (suc f) (suc n) ds =
    onto f (suc n / 10) _ ∙ sym (append_assoc (digits_onto f (suc n / 10) []) _ ds) ∙ ap (λ l. l ++ ds) (sym (onto f (suc n / 10) ((48 + suc n % 10) ∷ [])))

-- enough fuel is enough
fueled : (f g n : ℕ) (ds : List ℕ) → n ≤ f → n ≤ g → digits_onto f n ds ≡ digits_onto g n ds
unfolding digits_onto
fueled zero zero n ds l m = refl
fueled zero (suc g) zero ds l m = refl
fueled zero (suc g) (suc n) ds l m = absurd (omega arith)
fueled (suc f) zero zero ds l m = refl
fueled (suc f) zero (suc n) ds l m = absurd (omega arith)
fueled (suc f) (suc g) zero ds l m = refl
fueled (suc f) (suc g) (suc n) ds l m = fueled f g (suc n / 10) _ (omega arith) (omega arith)

pub digits_last : (n : ℕ) → 0 < n → digits n ≡ digits (n / 10) ++ (48 + n % 10) ∷ []
unfolding digits digits_onto
digits_last zero l = absurd (omega arith)
digits_last (suc n) l = fueled n (suc n / 10) (suc n / 10) _ (omega arith) (omega arith) ∙ onto (suc n / 10) (suc n / 10) _

pub digits_none : digits 0 ≡ []
unfolding digits digits_onto
digits_none = refl

pub digits_length : (n : ℕ) → 0 < n → length (digits n) ≡ suc (length (digits (n / 10)))
digits_length n l = ap length (digits_last n l) ∙ length-append (digits (n / 10)) _ ∙ omega arith

-- no digits of 0, and the last digit behind the others
pub put_zero : (b : List ℕ) (at n : ℕ) → n ≡ 0 → Put b at (digits n) b at
put_zero b at n e = rw (e, digits_none) (put_none b at)

pub put_last : {b m : List ℕ} {at k : ℕ} (n d : ℕ) → 0 < n → Put b at (digits (n / 10)) m k → d ≡ 48 + n % 10 → Put b at (digits n) (set m k d) (k + 1)
put_last {b} {m} {at} {k} n d l p e =
    let a : d ∷ [] ≡ (48 + n % 10) ∷ [] = ap (λ x. x ∷ []) e in
    rw (digits_last n l, ← a, add-one k) (put_then p (put_one m k d))

-- at most k digits
pub digits_most : (k n : ℕ) → n < 10 ^ k → length (digits n) ≤ k
digits_most zero zero l = rw digits_none (omega arith)
digits_most zero (suc n) l = absurd (omega arith)
digits_most (suc k) zero l = rw digits_none (omega arith)
digits_most (suc k) (suc n) l =
    let h : suc n < 10 ^ k * 10 = simp unary_clauses at l in
    let i = digits_most k (suc n / 10) (omega arith) in
    omega (arith, digits_length (suc n) (omega arith))

pub decimal_digits : (n : ℕ) → 0 < n → decimal n ≡ digits n
unfolding decimal digits
decimal_digits zero l = absurd (omega arith)
decimal_digits (suc n) l = refl

pub decimal_zero : decimal 0 ≡ 48 ∷ []
unfolding decimal
decimal_zero = refl

pub decimal_most : (k n : ℕ) → 0 < k → n < 10 ^ k → length (decimal n) ≤ k
decimal_most k zero o l = rw decimal_zero (omega arith)
decimal_most k (suc n) o l = rw (decimal_digits (suc n) (omega arith)) (digits_most k (suc n) l)

-- the two ways of a decimal number
pub put_nought : (b : List ℕ) (at n : ℕ) → n ≡ 0 → Put b at (decimal n) (set b at 48) (at + 1)
put_nought b at n e = rw (e, decimal_zero, add-one at) (put_one b at 48)

pub nought_length : (n : ℕ) → n ≡ 0 → length (decimal n) ≡ 1
nought_length n e = rw (e, decimal_zero)
