-- Lists of variables, one more at the end: their set, and that none stands twice in them.
use Rattle.std.specs.Prelude.{ℕ, zero, suc, ◌+◌, ◌≤◌, ◌≡◌, refl, Bool, true, false, List, [], ◌∷◌, ◌++◌, eqb}
use Rattle.std.proofs.Common.{arith, sym, ap, ◌∙◌, append-nil, append_assoc, ⊎_elim, eqb-true, eq-eqb, ne_eqb}
use Rattle.sets.specs.Tests.{◌&◌, neg, truth, clash, false_of, same_truth, and_true, true_and, neg_true, true_neg}
use Rattle.sets.specs.Sets.{member, empty_set, single, ◌∪◌}
use Rattle.sets.specs.SetLaws.{union_empty, empty_union, union_assoc}
use Rattle.sets.specs.Members.{set_of, in_list, nil_in, cons_here, cons_later, cons_in}
use Rattle.sets.specs.MemberLaws.{set_of_in, set_of_mk}
use Rattle.sets.specs.declared.Set.{Set}
use Rattle.language.specs.Lists.{one, count}
use Rattle.language.specs.Program.{trim_onto, trimmed}
use Rattle.language.specs.Values.{distinct}
use Rattle.language.specs.Format.{max_variables}

-- every number is one that a set can hold
abbrev pub InRange : ℕ → Type 0
InRange x = (1 ≤ x) × (x ≤ max_variables)

abbrev pub Ranged : List ℕ → Type 0
Ranged [] = Unit {0}
Ranged (x ∷ xs) = InRange x × Ranged xs

pub ranged_front : (xs : List ℕ) {x : ℕ} → Ranged (xs ++ x ∷ []) → Ranged xs × InRange x
ranged_front [] r = (tt, r.0)
ranged_front (y ∷ xs) r = let s = ranged_front xs r.1 in ((r.0, s.0), s.1)

ranged_left : (xs ys : List ℕ) → Ranged (xs ++ ys) → Ranged xs
ranged_left [] ys r = tt
ranged_left (x ∷ xs) ys r = (r.0, ranged_left xs ys r.1)

-- ---- the set of a list
pub set_snoc : (xs : List ℕ) (x : ℕ) → set_of (xs ++ x ∷ []) ≡ set_of xs ∪ single x
unfolding set_of
set_snoc [] x = union_empty (single x) ∙ sym (empty_union (single x))
set_snoc (y ∷ xs) x = ap (λ s. single y ∪ s) (set_snoc xs x) ∙ sym (union_assoc (single y) (set_of xs) (single x))

-- ---- how often a number stands in a list
count_none : (n : ℕ) (xs : List ℕ) → eqb (count n xs) 0 ≡ true → in_list n xs ≡ true → ⊥
unfolding count one
count_none n [] e m = nil_in n m
count_none n (x ∷ xs) e m =
    let z : one (eqb x n) + count n xs ≡ 0 = eqb-true (one (eqb x n) + count n xs) 0 e in
    ⊎_elim (λ q. let w : 1 + count n xs ≡ 0 = rw q at z in omega arith)
    (λ q. let w : 0 + count n xs ≡ 0 = rw q at z in
    ⊎_elim (λ p. clash (eq-eqb x n p) q) (λ p. count_none n xs (eq-eqb (count n xs) 0 (omega arith)) p) (cons_in n x xs m)) (truth (eqb x n))

none_count : (n : ℕ) (xs : List ℕ) → (in_list n xs ≡ true → ⊥) → eqb (count n xs) 0 ≡ true
unfolding count one
none_count n [] h = refl
none_count n (x ∷ xs) h =
    let q : eqb x n ≡ false = ne_eqb x n (λ p. h (cons_here n x xs p)) in
    let z = eqb-true (count n xs) 0 (none_count n xs (λ p. h (cons_later n x xs p))) in
    rw q (eq-eqb (0 + count n xs) 0 (omega arith))

-- a number that a set can hold stands in no list whose set lacks it
pub fresh_is : (xs : List ℕ) (x : ℕ) → InRange x → eqb (count x xs) 0 ≡ neg (member (set_of xs) x)
fresh_is xs x r =
    same_truth (λ e. true_neg (false_of (λ m. count_none x xs e (set_of_in xs x m))))
    λ e. none_count x xs (λ m. clash (set_of_mk xs x m r.0 r.1) (neg_true e))

-- ---- none stands twice
eqb_turn : (x y : ℕ) → eqb x y ≡ eqb y x
eqb_turn x y = same_truth (λ e. eq-eqb y x (sym (eqb-true x y e))) λ e. eq-eqb x y (sym (eqb-true y x e))

count_snoc : (n : ℕ) (xs : List ℕ) (x : ℕ) → count n (xs ++ x ∷ []) ≡ count n xs + one (eqb x n)
unfolding count
count_snoc n [] x = omega arith
count_snoc n (y ∷ xs) x = let h = count_snoc n xs x in omega arith

-- y in front of a list whose first part has it `k` times and that has x at its end, where x is y or not
twice_step : (b : Bool) (k l : ℕ) (d : Bool) → eqb (k + one b) 0 & (d & eqb l 0) ≡ (eqb k 0 & d) & eqb (one b + l) 0
unfolding one
twice_step true k l d =
    same_truth (λ e. let z = eqb-true (k + 1) 0 (and_true e).0 in absurd (omega arith))
    λ e. let z = eqb-true (1 + l) 0 (and_true e).1 in absurd (omega arith)
twice_step false k l d =
    let z : k + 0 ≡ k = omega arith in
    let w : 0 + l ≡ l = omega arith in
    rw (z, w) (same_truth (λ e. let p = and_true e in let q = and_true p.1 in true_and (true_and p.0 q.0) q.1)
    λ e. let p = and_true e in let q = and_true p.0 in true_and q.0 (true_and q.1 p.1))

pub distinct_snoc : (xs : List ℕ) (x : ℕ) → distinct (xs ++ x ∷ []) ≡ distinct xs & eqb (count x xs) 0
unfolding distinct count
distinct_snoc [] x = refl
distinct_snoc (y ∷ xs) x =
    rw (count_snoc y xs x, distinct_snoc xs x, eqb_turn y x) (twice_step (eqb x y) (count y xs) (count x xs) (distinct xs))

-- ---- none stands twice, as the code finds out: it keeps the set of those before
unfoldable pub fresh_from : Set → List ℕ → Bool
fresh_from s [] = true
fresh_from s (x ∷ xs) = neg (member s x) & fresh_from (s ∪ single x) xs

unfoldable pub fresh : List ℕ → Bool
fresh xs = fresh_from empty_set xs

and_through : (a b c : Bool) → a & (b & c) ≡ (a & b) & c
unfolding ◌&◌
and_through true b c = refl
and_through false b c = refl

and_true_right : (b : Bool) → true & b ≡ b & true
unfolding ◌&◌
and_true_right true = refl
and_true_right false = refl

from_snoc : (s : Set) (xs : List ℕ) (x : ℕ) → fresh_from s (xs ++ x ∷ []) ≡ fresh_from s xs & neg (member (s ∪ set_of xs) x)
unfolding fresh_from set_of
from_snoc s [] x = rw (union_empty s) (sym (and_true_right (neg (member s x))))
from_snoc s (y ∷ xs) x =
    rw (from_snoc (s ∪ single y) xs x, union_assoc s (single y) (set_of xs))
    (and_through (neg (member s y)) (fresh_from (s ∪ single y) xs) (neg (member (s ∪ (single y ∪ set_of xs)) x)))

pub fresh_snoc : (xs : List ℕ) (x : ℕ) → fresh (xs ++ x ∷ []) ≡ fresh xs & neg (member (set_of xs) x)
unfolding fresh
fresh_snoc xs x = from_snoc empty_set xs x ∙ rw (empty_union (set_of xs)) refl

-- right for numbers that a set can hold
distinct_from : (ys xs : List ℕ) → Ranged (ys ++ xs) → distinct ys & fresh_from (set_of ys) xs ≡ distinct (ys ++ xs)
unfolding fresh_from distinct ◌&◌
distinct_from ys [] r = rw (append-nil ys) (sym (and_true_right (distinct ys)))
distinct_from ys (x ∷ xs) r =
    let e = append_assoc ys (x ∷ []) xs in
    let h = distinct_from (ys ++ x ∷ []) xs (rw e r) in
    let d = distinct_snoc ys x ∙ ap (λ b. distinct ys & b) (fresh_is ys x (ranged_front ys (ranged_left (ys ++ x ∷ []) xs (rw e r))).1) in
    and_through (distinct ys) (neg (member (set_of ys) x)) (fresh_from (set_of ys ∪ single x) xs)
    ∙ ap (λ b. b & fresh_from (set_of ys ∪ single x) xs) (sym d) ∙ ap (λ s. distinct (ys ++ x ∷ []) & fresh_from s xs) (sym (set_snoc ys x)) ∙ h ∙ ap distinct e

pub fresh_distinct : (xs : List ℕ) → Ranged xs → fresh xs ≡ distinct xs
unfolding fresh distinct set_of ◌&◌
fresh_distinct xs r = distinct_from [] xs r

-- ---- a zero at the end of a list is no member
pub trim_fold : {A : Type 0} (f : A → ℕ → A) → ((a : A) → f a 0 ≡ a) → (g : A → List ℕ → A) → ((a : A) → g a [] ≡ a)
    → ((a : A) (x : ℕ) (xs : List ℕ) → g a (x ∷ xs) ≡ g (f a x) xs) → (xs : List ℕ) (a : A) → g a xs ≡ g a (trimmed xs)
unfolding trimmed trim_onto
trim_fold f z g n c [] a = refl
trim_fold {A} f z g n c (x ∷ xs) a = c a x xs ∙ trim_fold f z g n c xs (f a x) ∙ go x (trimmed xs)
  where
    go : (x : ℕ) (ts : List ℕ) → g (f a x) ts ≡ g a (trim_onto x ts)
    go zero [] = rw (z a) refl
    go zero (y ∷ ys) = sym (c a zero (y ∷ ys))
    go (suc x) ts = sym (c a (suc x) ts)
