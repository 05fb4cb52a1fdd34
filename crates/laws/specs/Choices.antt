-- Laws of a choice by a test, and of a function changed at one number.
use Rattle.std.specs.Prelude.{ℕ, Bool, true, false, ◌≢◌, ◌≡◌, refl}
use Rattle.std.proofs.lemmas.Bool.{false≢true}
use Rattle.std.proofs.Common.{sym, ap, ◌∙◌, eq-eqb, ne_eqb}
use Rattle.std.proofs.Math.Decide.{ℕ_discrete}
use Rattle.sets.specs.Tests.{clash}
use Rattle.language.specs.Lists.{choose, put}

pub choose_true : {A : Type 0} (t : Bool) (a b : A) → t ≡ true → choose t a b ≡ a
unfolding choose
choose_true true a b e = refl
choose_true false a b e = absurd (false≢true e)

pub choose_false : {A : Type 0} (t : Bool) (a b : A) → t ≡ false → choose t a b ≡ b
unfolding choose
choose_false true a b e = absurd (false≢true (sym e))
choose_false false a b e = refl

pub choose_map : {A B : Type 0} (f : A → B) (t : Bool) (a b : A) → f (choose t a b) ≡ choose t (f a) (f b)
unfolding choose
choose_map f true a b = refl
choose_map f false a b = refl

-- ---- a function changed at one number
pub put_same : {A : Type 0} (f : ℕ → A) (n : ℕ) (a : A) → put f n a n ≡ a
unfolding put
put_same f n a = choose_true _ a (f n) (eq-eqb n n refl)

pub put_other : {A : Type 0} (f : ℕ → A) (n : ℕ) (a : A) (m : ℕ) → n ≢ m → put f n a m ≡ f m
unfolding put
put_other f n a m ne = choose_false _ a (f m) (ne_eqb n m ne)

pub put_false : (f : ℕ → Bool) (n m : ℕ) → put f n false m ≡ true → (n ≢ m) × (f m ≡ true)
put_false f n m e = go (ℕ_discrete n m)
  where
    go : Dec (n ≡ m) → (n ≢ m) × (f m ≡ true)
    go (yes q) = absurd (clash e (ap (put f n false) (sym q) ∙ put_same f n false))
    go (no ne) = (ne, sym (put_other f n false m ne) ∙ e)

pub put_true : (f : ℕ → Bool) (n m : ℕ) → f m ≡ true → put f n true m ≡ true
put_true f n m e = go (ℕ_discrete n m)
  where
    go : Dec (n ≡ m) → put f n true m ≡ true
    go (yes q) = ap (put f n true) (sym q) ∙ put_same f n true
    go (no ne) = put_other f n true m ne ∙ e
