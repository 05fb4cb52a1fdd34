-- How many members a set has among 1 to 64: a measure for what grows or shrinks.
-- Assumes nothing.
use Rattle.std.specs.Prelude.{◌≡◌, refl, Bool, true, false, List, ◌⊎◌}
use Rattle.std.proofs.Common.{ap, ◌∙◌, inl, inr}
use Prim.Native.Nat.{ℕ, zero, suc, ◌+◌, ◌-◌, ◌≤◌, ◌<◌}
use Rattle.std.proofs.Math.Decide.{ℕ_discrete}
use native.Mathlib.Omega.{arith}
use Rattle.std.proofs.Math.ListN.{length}
use Rattle.sets.specs.Tests.{truth, clash}
use Rattle.sets.specs.Sets.{member, empty_set, same_set, subset, Small, eq_same, member_pos, member_empty, subset_in, subset_fails}
use Rattle.sets.specs.SetLaws.{subset_antisym, empty_subset, small_top}
use Rattle.sets.specs.Members.{cons_if, members_from, members}
use Rattle.sets.specs.declared.Set.{Set}

unfoldable pub size : Set → ℕ
size s = length (members s)

-- ---- one entry more or less
cons_if_at_most : (b : Bool) (x k : ℕ) (xs : List ℕ) → length xs ≤ k → length (cons_if b x xs) ≤ suc k
unfolding cons_if
cons_if_at_most true x k xs h = omega arith
cons_if_at_most false x k xs h = omega arith

cons_if_below : (b : Bool) (x k : ℕ) (xs : List ℕ) → (b ≡ true → x ≤ k) → length xs ≤ suc k - suc x → length (cons_if b x xs) ≤ suc k - x
unfolding cons_if
cons_if_below true x k xs f h = let l = f refl in omega arith
cons_if_below false x k xs f h = omega arith

cons_if_le : (p q : Bool) (x : ℕ) (xs ys : List ℕ) → (p ≡ true → q ≡ true) → length xs ≤ length ys
    → length (cons_if p x xs) ≤ length (cons_if q x ys)
unfolding cons_if
cons_if_le true true x xs ys f h = omega arith
cons_if_le true false x xs ys f h = absurd (clash (f refl) refl)
cons_if_le false true x xs ys f h = omega arith
cons_if_le false false x xs ys f h = h

cons_if_lt : (p q : Bool) (x : ℕ) (xs ys : List ℕ) → (p ≡ true → q ≡ true) → length xs < length ys
    → length (cons_if p x xs) < length (cons_if q x ys)
unfolding cons_if
cons_if_lt true true x xs ys f h = omega arith
cons_if_lt true false x xs ys f h = absurd (clash (f refl) refl)
cons_if_lt false true x xs ys f h = omega arith
cons_if_lt false false x xs ys f h = h

cons_if_gain : (p q : Bool) (x : ℕ) (xs ys : List ℕ) → p ≡ false → q ≡ true → length xs ≤ length ys
    → length (cons_if p x xs) < length (cons_if q x ys)
unfolding cons_if
cons_if_gain true q x xs ys e f h = absurd (clash refl e)
cons_if_gain false true x xs ys e f h = omega arith
cons_if_gain false false x xs ys e f h = absurd (clash f refl)

-- ---- the members among the k numbers from m on
from_at_most : (s : Set) (k m : ℕ) → length (members_from s k m) ≤ k
unfolding members_from
from_at_most s zero m = omega arith
from_at_most s (suc k) m = cons_if_at_most (member s m) m k _ (from_at_most s k (suc m))

from_below : (s : Set) (t : ℕ) → ((n : ℕ) → member s n ≡ true → n ≤ t) → (k m : ℕ) → length (members_from s k m) ≤ suc t - m
unfolding members_from
from_below s t f zero m = omega arith
from_below s t f (suc k) m = cons_if_below (member s m) m t _ (f m) (from_below s t f k (suc m))

module _ (a b : Set) (f : (n : ℕ) → member a n ≡ true → member b n ≡ true) where
  from_le : (k m : ℕ) → length (members_from a k m) ≤ length (members_from b k m)
  unfolding members_from
  from_le zero m = omega arith
  from_le (suc k) m = cons_if_le (member a m) (member b m) m _ _ (f m) (from_le k (suc m))

  from_lt : (n : ℕ) → member a n ≡ false → member b n ≡ true → (k m : ℕ) → m ≤ n → n < m + k
      → length (members_from a k m) < length (members_from b k m)
  unfolding members_from
  from_lt n p q zero m h l = absurd (omega arith)
  from_lt n p q (suc k) m h l = go (from_lt n p q k (suc m)) (ℕ_discrete m n)
    where
      go : (suc m ≤ n → n < suc m + k → length (members_from a k (suc m)) < length (members_from b k (suc m))) → Dec (m ≡ n)
          → length (members_from a (suc k) m) < length (members_from b (suc k) m)
      go ih (yes e) = cons_if_gain (member a m) (member b m) m _ _ (ap (member a) e ∙ p) (ap (member b) e ∙ q) (from_le k (suc m))
      go ih (no g) = cons_if_lt (member a m) (member b m) m _ _ (f m) (ih (omega (arith, g)) (omega arith))

-- ---- the size
pub size_top : (s : Set) → size s ≤ 64
unfolding size members
size_top s = from_at_most s 64 1

-- no more members than the greatest
pub size_below : (s : Set) (t : ℕ) → ((n : ℕ) → member s n ≡ true → n ≤ t) → size s ≤ t
unfolding size members
size_below s t f = let h = from_below s t f 64 1 in omega arith

pub size_mono : (a b : Set) → subset a b ≡ true → size a ≤ size b
unfolding size members
size_mono a b h = from_le a b (subset_in a b h) 64 1

pub size_lt : (a b : Set) (n : ℕ) → subset a b ≡ true → member a n ≡ false → member b n ≡ true → n ≤ 64 → size a < size b
unfolding size members
size_lt a b n h p q l = from_lt a b (subset_in a b h) n p q 64 1 (member_pos b n q) (omega arith)

-- a subset that is not the whole is smaller
pub size_grows : (a b : Set) → Small b → subset a b ≡ true → same_set a b ≡ false → size a < size b
size_grows a b t h e = go (truth (subset b a))
  where
    go : (subset b a ≡ true) ⊎ (subset b a ≡ false) → size a < size b
    go (inl p) = absurd (clash (eq_same a b (subset_antisym a b h p)) e)
    go (inr p) = let r = subset_fails b a p in size_lt a b r.0 h r.2 r.1 (small_top b t r.0 r.1)

pub size_pos : (s : Set) (n : ℕ) → member s n ≡ true → n ≤ 64 → 1 ≤ size s
size_pos s n e l = let h = size_lt empty_set s n (empty_subset s) (member_empty n) e l in omega arith
