-- Rounds that only add: each adds something, or nothing is left to add. A search that goes on for as many rounds as there is to find has found all.
use Rattle.std.specs.Prelude.{ℕ, zero, suc, ◌≤◌, ◌<◌, Bool, true, false, List, [], ◌∷◌, ◌⊎◌, ◌≡◌, refl, length}
use Rattle.std.proofs.Common.{arith, inl, inr, ⊎_elim, sym, ap, ◌∙◌}
use Rattle.std.proofs.lemmas.Bool.{false≢true}
use Rattle.sets.specs.Members.{cons_if, filtered, in_list, cons_here, cons_later}

-- what stands after k rounds, each of which goes `further`
module _ {A : Type 0} (further : A → A) (size : A → ℕ) (after : ℕ → A) (round : (k : ℕ) → after (suc k) ≡ further (after k))
    (grows : (k : ℕ) → (further (after k) ≡ after k) ⊎ (size (after k) < size (further (after k)))) (some : 1 ≤ size (after 0)) where
  still : (k : ℕ) → further (after k) ≡ after k → further (after (suc k)) ≡ after (suc k)
  still k e = ap further (round k ∙ e) ∙ sym (round k)

  pub rounds : (k : ℕ) → (further (after k) ≡ after k) ⊎ (suc k ≤ size (after k))
  rounds zero = inr some
  rounds (suc k) =
      ⊎_elim (λ e. inl (still k e)) (λ l. ⊎_elim (λ e. inl (still k e)) (λ m. inr (omega (arith, ap size (round k)))) (grows k)) (rounds k)

-- ---- of a list, those that pass a test
most_more : (b : Bool) (x : ℕ) (xs : List ℕ) (n : ℕ) → length xs ≤ n → length (cons_if b x xs) ≤ suc n
unfolding cons_if
most_more true x xs n l = omega arith
most_more false x xs n l = omega arith

pub filtered_most : (p : ℕ → Bool) (xs : List ℕ) → length (filtered p xs) ≤ length xs
unfolding filtered
filtered_most p [] = omega arith
filtered_most p (x ∷ xs) = most_more (p x) x (filtered p xs) (length xs) (filtered_most p xs)

-- a list, or a longer one
abbrev pub SameOrMore : List ℕ → List ℕ → Type 0
SameOrMore xs ys = (xs ≡ ys) ⊎ (length xs < length ys)

in_front_law : (a b : Bool) (x : ℕ) (xs ys : List ℕ) → (a ≡ true → b ≡ true) → SameOrMore xs ys → SameOrMore (cons_if a x xs) (cons_if b x ys)
unfolding cons_if
in_front_law true true x xs ys f s = ⊎_elim (λ e. inl (ap (λ (zs : List ℕ). x ∷ zs) e)) (λ l. inr (omega arith)) s
in_front_law true false x xs ys f s = absurd (false≢true (f refl))
in_front_law false true x xs ys f s = ⊎_elim (λ e. inr (omega (arith, ap length e))) (λ l. inr (omega arith)) s
in_front_law false false x xs ys f s = s

-- a test that more of the list pass
pub same_or_more : (p q : ℕ → Bool) (xs : List ℕ) → ((n : ℕ) → in_list n xs ≡ true → p n ≡ true → q n ≡ true) → SameOrMore (filtered p xs) (filtered q xs)
unfolding filtered
same_or_more p q [] f = inl refl
same_or_more p q (x ∷ xs) f =
    in_front_law (p x) (q x) x (filtered p xs) (filtered q xs) (f x (cons_here x x xs refl)) (same_or_more p q xs (λ n l. f n (cons_later n x xs l)))
