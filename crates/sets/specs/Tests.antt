-- Tests that are true or false, shut so that antt can infer their parts, and their laws.
-- Assumes nothing.
use Rattle.std.specs.Prelude.{◌≡◌, refl, Bool, true, false, ◌⊎◌}
use Rattle.std.proofs.Common.{sym, ◌∙◌, inl, inr}
use Rattle.std.proofs.lemmas.Bool.{false≢true}

infixr 35 ◌&◌
infixr 34 ◌or◌
unfoldable pub ◌&◌ : Bool → Bool → Bool
true & b = b
false & b = false

unfoldable pub ◌or◌ : Bool → Bool → Bool
true or b = true
false or b = b

unfoldable pub neg : Bool → Bool
neg true = false
neg false = true

-- ---- any test
pub truth : (b : Bool) → (b ≡ true) ⊎ (b ≡ false)
truth true = inl refl
truth false = inr refl

pub clash : {b : Bool} → b ≡ true → b ≡ false → ⊥
clash p q = false≢true (sym q ∙ p)

pub false_of : {b : Bool} → (b ≡ true → ⊥) → b ≡ false
false_of {b = true} f = absurd (f refl)
false_of {b = false} f = refl

-- two tests that follow from each other are equal
pub same_truth : {a b : Bool} → (a ≡ true → b ≡ true) → (b ≡ true → a ≡ true) → a ≡ b
same_truth {a = true} f g = sym (f refl)
same_truth {a = false} f g = sym (false_of (λ e. false≢true (g e)))

-- ---- and
pub and_true : {a b : Bool} → (a & b) ≡ true → (a ≡ true) × (b ≡ true)
unfolding ◌&◌
and_true {a = true} e = (refl, e)
and_true {a = false} e = absurd (false≢true e)

pub true_and : {a b : Bool} → a ≡ true → b ≡ true → (a & b) ≡ true
unfolding ◌&◌
true_and {a = true} p q = q
true_and {a = false} p q = p

pub and_false : {a b : Bool} → (a & b) ≡ false → (a ≡ false) ⊎ (b ≡ false)
unfolding ◌&◌
and_false {a = true} e = inr e
and_false {a = false} e = inl refl

-- ---- or
pub or_true : {a b : Bool} → (a or b) ≡ true → (a ≡ true) ⊎ (b ≡ true)
unfolding ◌or◌
or_true {a = true} e = inl refl
or_true {a = false} e = inr e

pub true_or_left : {a : Bool} (b : Bool) → a ≡ true → (a or b) ≡ true
unfolding ◌or◌
true_or_left {a = true} b e = refl
true_or_left {a = false} b e = absurd (false≢true e)

pub true_or_right : (a : Bool) {b : Bool} → b ≡ true → (a or b) ≡ true
unfolding ◌or◌
true_or_right true e = refl
true_or_right false e = e

-- ---- not
pub neg_true : {a : Bool} → neg a ≡ true → a ≡ false
unfolding neg
neg_true {a = true} e = sym e
neg_true {a = false} e = refl

pub true_neg : {a : Bool} → a ≡ false → neg a ≡ true
unfolding neg
true_neg {a = true} e = sym e
true_neg {a = false} e = refl
