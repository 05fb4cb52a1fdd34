-- The words of a record apart: those that must be 0, by w2 and w3 and by w4 to w7 as numbers, and the references.
use Prim.Native.Nat.{ℕ, ◌+◌, ◌≤◌, ◌^◌, ◌-◌, suc}
use native.Mathlib.Omega.{arith}
use mathlib.Core.Path.{◌≡◌, refl, sym, ◌∙◌, ap}
use mathlib.Core.Bool.{Bool, true, false}
use mathlib.Core.List.{List, ◌∷◌, ◌++◌, []}
use lib.Dec.{eqb, leb}
use borrow.Author.Tests.{eq-eqb, eqb-true, le-leb, leb-true}
use Rattle.sets.specs.Tests.{◌&◌, same_truth, and_true, true_and}
use Rattle.language.specs.File.{k_literal, k_sum, k_assign, k_construct, k_switch, k_if, k_call, k_print, k_create, k_remove, k_try, k_test, Kind, k_none, k_header, k_type, k_functor, k_procedure, k_variable, k_region, k_edge, k_arm, k_argument, k_goal, row, row_in, padded, Use, number, unused, first, kind_at, reference_ok, words_ok, record_ok, leading}
use Rattle.records.specs.Table.{listed, low_most, high_most, uses}
use Rattle.records.specs.Form.{zeros, leads, refers, refers_ok, spare_ok, use_ok}
use Rattle.records.specs.Sizes.{word_end}
use Rattle.records.specs.Spare.{HighWords, LowWords}

-- ---- words that are all 0
unfoldable nil : List ℕ → Bool
nil [] = true
nil (x ∷ xs) = eqb x 0 & nil xs

unfoldable sum : List ℕ → ℕ
sum [] = 0
sum (x ∷ xs) = x + sum xs

nil_sum : (xs : List ℕ) → nil xs ≡ eqb (sum xs) 0
unfolding nil sum
nil_sum [] = refl
nil_sum (x ∷ xs) =
    same_truth
    (λ e. let p : x ≡ 0 = eqb-true x 0 (and_true e).0 in let q : sum xs ≡ 0 = eqb-true (sum xs) 0 (sym (nil_sum xs) ∙ (and_true e).1) in eq-eqb (x + sum xs) 0 (omega arith))
    (λ e. let p : x + sum xs ≡ 0 = eqb-true (x + sum xs) 0 e in true_and (eq-eqb x 0 (omega arith)) (nil_sum xs ∙ eq-eqb (sum xs) 0 (omega arith)))

-- a number is 0 exactly if two others keep their bounds
bounded : (t a most b end : ℕ) → (t ≡ 0 → (a ≤ most) × (b ≤ end)) → (a ≤ most → b ≤ end → t ≡ 0) → eqb t 0 ≡ (leb a most & leb b end)
bounded t a most b end f g =
    same_truth
    (λ e. let h = f (eqb-true _ _ e) in true_and (le-leb _ _ h.0) (le-leb _ _ h.1))
    (λ e. eq-eqb _ _ (g (leb-true _ _ (and_true e).0) (leb-true _ _ (and_true e).1)))

-- ---- by kind
module _ (W : ℕ → ℕ → ℕ) (i : ℕ) {a b : ℕ} (l : LowWords (W i) a) (h : HighWords (W i) b) where
  unfoldable Small : ℕ → ℕ → List ℕ → Type 0
  Small most end xs = nil xs ≡ (leb a most & leb b end)

  small : (most end : ℕ) (xs : List ℕ) → (sum xs ≡ 0 → (a ≤ most) × (b ≤ end)) → (a ≤ most → b ≤ end → sum xs ≡ 0) → Small most end xs
  unfolding Small
  small most end xs f g = nil_sum xs ∙ bounded (sum xs) a most b end f g

  used0 : Small 0 0 (W i 2 ∷ W i 3 ∷ W i 4 ∷ W i 5 ∷ W i 6 ∷ W i 7 ∷ [])
  unfolding sum
  used0 = small _ _ _ (λ z. (omega arith, omega arith)) (λ p q. omega arith)

  used1 : Small (word_end - 1) 0 (W i 3 ∷ W i 4 ∷ W i 5 ∷ W i 6 ∷ W i 7 ∷ [])
  unfolding sum
  used1 = small _ _ _ (λ z. (omega arith, omega arith)) (λ p q. omega arith)

  used2 : Small (word_end ^ 2 - 1) 0 (W i 4 ∷ W i 5 ∷ W i 6 ∷ W i 7 ∷ [])
  unfolding sum
  used2 = small _ _ _ (λ z. (omega arith, omega arith)) (λ p q. omega arith)

  used3 : Small (word_end ^ 2 - 1) (word_end - 1) (W i 5 ∷ W i 6 ∷ W i 7 ∷ [])
  unfolding sum
  used3 = small _ _ _ (λ z. (omega arith, omega arith)) (λ p q. omega arith)

  used4 : Small (word_end ^ 2 - 1) (word_end ^ 2 - 1) (W i 6 ∷ W i 7 ∷ [])
  unfolding sum
  used4 = small _ _ _ (λ z. (omega arith, omega arith)) (λ p q. omega arith)

  used5 : Small (word_end ^ 2 - 1) (word_end ^ 3 - 1) (W i 7 ∷ [])
  unfolding sum
  used5 = small _ _ _ (λ z. (omega arith, omega arith)) (λ p q. omega arith)

  used6 : Small (word_end ^ 2 - 1) (word_end ^ 4 - 1) []
  unfolding sum
  used6 = small _ _ _ (λ z. (omega arith, omega arith)) (λ p q. omega arith)

  pub zeros_small : (k : Kind) → zeros W i 2 (row k).words ≡ (leb a (low_most k) & leb b (high_most k))
  unfolding Small nil zeros row row_in padded low_most high_most listed
  zeros_small k_none = used0
  zeros_small k_header = used2
  zeros_small k_type = used1
  zeros_small k_functor = used5
  zeros_small k_procedure = used3
  zeros_small k_variable = used3
  zeros_small k_region = used3
  zeros_small k_edge = used3
  zeros_small k_arm = used6
  zeros_small k_argument = used1
  zeros_small (k_goal k_literal) = used2
  zeros_small (k_goal k_sum) = used4
  zeros_small (k_goal k_assign) = used2
  zeros_small (k_goal k_construct) = used6
  zeros_small (k_goal k_switch) = used2
  zeros_small (k_goal k_if) = used4
  zeros_small (k_goal k_call) = used2
  zeros_small (k_goal k_print) = used1
  zeros_small (k_goal k_create) = used1
  zeros_small (k_goal k_remove) = used1
  zeros_small (k_goal k_try) = used3
  zeros_small (k_goal k_test) = used2

-- tests may stand in any order
and_later : (a b c : Bool) → (a & b & c) ≡ (b & a & c)
unfolding ◌&◌
and_later true b c = refl
and_later false true c = refl
and_later false false c = refl

and_turned : (a b : Bool) → (a & b) ≡ (b & a)
unfolding ◌&◌
and_turned true true = refl
and_turned true false = refl
and_turned false true = refl
and_turned false false = refl

and_apart : (a b c : Bool) → (a & b & c) ≡ ((a & b) & c)
unfolding ◌&◌
and_apart true b c = refl
and_apart false b c = refl

-- ---- the references
module _ (W : ℕ → ℕ → ℕ) (n i : ℕ) where
  pub leading_cons : (k : ℕ) (u : Use) (us : List Use) → leading W n i k (u ∷ us) ≡ leads W n i k u ++ leading W n i (suc k) us
  unfolding leading leads
  leading_cons k number us = refl
  leading_cons k unused us = refl
  leading_cons k (first c) us = refl

  words_apart : (k : ℕ) (us : List Use) → words_ok W n i k us ≡ (refers W n i k us & zeros W i k us)
  unfolding words_ok refers use_ok zeros ◌&◌
  words_apart k [] = refl
  words_apart k (number ∷ us) = words_apart (suc k) us
  words_apart k (unused ∷ us) = ap (λ t. eqb (W i k) 0 & t) (words_apart (suc k) us) ∙ and_later (eqb (W i k) 0) (refers W n i (suc k) us) (zeros W i (suc k) us)
  words_apart k (first c ∷ us) = ap (λ t. reference_ok W n i c (W i k) & t) (words_apart (suc k) us) ∙ and_apart (reference_ok W n i c (W i k)) (refers W n i (suc k) us) (zeros W i (suc k) us)

  pub record_apart : record_ok W n i ≡ (spare_ok W i & refers_ok W n i)
  unfolding record_ok words_ok refers_ok spare_ok uses zeros kind_at
  record_apart = words_apart 1 (uses (row (kind_at W n i))) ∙ and_turned (refers_ok W n i) (spare_ok W i)
