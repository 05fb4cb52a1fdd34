-- The members of a set in rising order, and sets made by going through lists and members.
-- Assumes nothing.
use Rattle.std.specs.Prelude.{◌≡◌, refl, Bool, true, false, List, [], ◌∷◌, ◌⊎◌, ℕ, zero, suc, ◌+◌, ◌-◌, ◌≤◌, ◌<◌, eqb}
use Rattle.std.proofs.Common.{sym, ap, ◌∙◌, inl, inr, ⊎_elim, arith, eqb-true, eq-eqb}
use Rattle.std.proofs.lemmas.Bool.{false≢true}
use Rattle.std.proofs.Math.Decide.{ℕ_discrete}
use Rattle.sets.specs.Tests.{◌&◌, ◌or◌, or_true, true_or_left, true_or_right}
use Rattle.sets.specs.Sets.{member, empty_set, single, ◌∪◌, member_pos}
use Rattle.sets.specs.declared.Set.{Set}

-- x in front, where the test passes
unfoldable pub cons_if : Bool → ℕ → List ℕ → List ℕ
cons_if true x xs = x ∷ xs
cons_if false x xs = xs

-- the members among the k numbers from n on
unfoldable pub members_from : Set → ℕ → ℕ → List ℕ
members_from s zero n = []
members_from s (suc k) n = cons_if (member s n) n (members_from s k (suc n))

-- the members, in rising number
unfoldable pub members : Set → List ℕ
members s = members_from s 64 1

-- the first of a list, or 65 where there is none
unfoldable pub first_or65 : List ℕ → ℕ
first_or65 [] = 65
first_or65 (x ∷ xs) = x

-- the least member above n, or 65 where there is none
unfoldable pub next_member : Set → ℕ → ℕ
next_member s n = first_or65 (members_from s (64 - n) (suc n))

-- the set of the numbers of a list
unfoldable pub set_of : List ℕ → Set
set_of [] = empty_set
set_of (x ∷ xs) = single x ∪ set_of xs

-- those of a list that pass the test
unfoldable pub filtered : (ℕ → Bool) → List ℕ → List ℕ
filtered p [] = []
filtered p (x ∷ xs) = cons_if (p x) x (filtered p xs)

-- the members that pass the test
unfoldable pub keep : (ℕ → Bool) → Set → Set
keep p s = set_of (filtered p (members s))

unfoldable pub union_all : (ℕ → Set) → List ℕ → Set
union_all f [] = empty_set
union_all f (x ∷ xs) = f x ∪ union_all f xs

-- the union of f over the members
unfoldable pub union_over : (ℕ → Set) → Set → Set
union_over f s = union_all f (members s)

-- the set of the members' images
unfoldable pub image : (ℕ → ℕ) → Set → Set
image f s = union_over (λ x. single (f x)) s

unfoldable pub all_of : (ℕ → Bool) → List ℕ → Bool
all_of p [] = true
all_of p (x ∷ xs) = p x & all_of p xs

-- every member passes the test
unfoldable pub every : (ℕ → Bool) → Set → Bool
every p s = all_of p (members s)

-- ---- what is in a list
unfoldable pub in_list : ℕ → List ℕ → Bool
in_list n [] = false
in_list n (x ∷ xs) = eqb x n or in_list n xs

pub nil_in : (n : ℕ) → in_list n [] ≡ true → ⊥
unfolding in_list
nil_in n e = false≢true e

pub cons_here : (n x : ℕ) (xs : List ℕ) → x ≡ n → in_list n (x ∷ xs) ≡ true
unfolding in_list
cons_here n x xs e = true_or_left _ (eq-eqb x n e)

pub cons_later : (n x : ℕ) (xs : List ℕ) → in_list n xs ≡ true → in_list n (x ∷ xs) ≡ true
unfolding in_list
cons_later n x xs e = true_or_right _ e

pub cons_in : (n x : ℕ) (xs : List ℕ) → in_list n (x ∷ xs) ≡ true → (x ≡ n) ⊎ (in_list n xs ≡ true)
unfolding in_list
cons_in n x xs e = ⊎_elim (λ p. inl (eqb-true x n p)) (λ q. inr q) (or_true e)

pub cons_if_here : (b : Bool) (n x : ℕ) (xs : List ℕ) → b ≡ true → x ≡ n → in_list n (cons_if b x xs) ≡ true
unfolding cons_if
cons_if_here true n x xs t e = cons_here n x xs e
cons_if_here false n x xs t e = absurd (false≢true t)

pub cons_if_later : (b : Bool) (n x : ℕ) (xs : List ℕ) → in_list n xs ≡ true → in_list n (cons_if b x xs) ≡ true
unfolding cons_if
cons_if_later true n x xs e = cons_later n x xs e
cons_if_later false n x xs e = e

pub cons_if_in : (b : Bool) (n x : ℕ) (xs : List ℕ) → in_list n (cons_if b x xs) ≡ true
    → ((b ≡ true) × (x ≡ n)) ⊎ (in_list n xs ≡ true)
unfolding cons_if
cons_if_in true n x xs e = ⊎_elim (λ p. inl (refl, p)) (λ q. inr q) (cons_in n x xs e)
cons_if_in false n x xs e = inr e

-- ---- the members, among the k numbers from m on and among all
pub members_from_in : (s : Set) (k m n : ℕ) → in_list n (members_from s k m) ≡ true → (member s n ≡ true) × (m ≤ n) × (n < m + k)
unfolding members_from
members_from_in s zero m n e = absurd (nil_in n e)
members_from_in s (suc k) m n e =
    ⊎_elim (λ p. (ap (member s) (sym p.1) ∙ p.0, omega arith, omega arith))
    (λ q. let r = members_from_in s k (suc m) n q in (r.0, omega arith, omega arith)) (cons_if_in (member s m) n m _ e)

pub members_from_mk : (s : Set) (k m n : ℕ) → member s n ≡ true → m ≤ n → n < m + k → in_list n (members_from s k m) ≡ true
unfolding members_from
members_from_mk s zero m n e h l = absurd (omega arith)
members_from_mk s (suc k) m n e h l = go (members_from_mk s k (suc m) n e) (ℕ_discrete m n)
  where
    go : (suc m ≤ n → n < suc m + k → in_list n (members_from s k (suc m)) ≡ true) → Dec (m ≡ n)
        → in_list n (cons_if (member s m) m (members_from s k (suc m))) ≡ true
    go ih (yes q) = cons_if_here (member s m) n m _ (ap (member s) q ∙ e) q
    go ih (no f) = cons_if_later (member s m) n m _ (ih (omega (arith, f)) (omega arith))

pub members_in : (s : Set) (n : ℕ) → in_list n (members s) ≡ true → (member s n ≡ true) × (n ≤ 64)
unfolding members
members_in s n e = let r = members_from_in s 64 1 n e in (r.0, omega arith)

pub members_mk : (s : Set) (n : ℕ) → member s n ≡ true → n ≤ 64 → in_list n (members s) ≡ true
unfolding members
members_mk s n e h = members_from_mk s 64 1 n e (member_pos s n e) (omega arith)
