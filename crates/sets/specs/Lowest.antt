-- A loop that takes the least member off until the set is empty goes through the members in order.
-- Assumes nothing.
use Rattle.std.specs.Prelude.{◌≡◌, refl, Bool, true, false, ℕ, ◌<◌, ◌≤◌, length}
use Rattle.std.proofs.Common.{sym, ◌∙◌, arith}
use Rattle.std.proofs.Math.Path.{ap}
use mathlib.Core.List.{List, [], ◌∷◌}
use Rattle.std.proofs.Math.Decide.{dec_lt, ℕ_discrete}
use Rattle.sets.specs.Tests.{same_truth, false_of, clash}
use Rattle.sets.specs.Sets.{member, empty_set, single, ◌∪◌, ◌∖◌, same_set, Small, same_eq, member_empty, member_some, member_pos, single_mk, single_in, difference_mk, difference_in}
use Rattle.sets.specs.SetLaws.{small_top}
use Rattle.sets.specs.Members.{cons_if, members, next_member, set_of, filtered, keep, in_list, nil_in, cons_here, members_in, members_mk}
use Rattle.sets.specs.Size.{size}
use Rattle.sets.specs.Walk.{above, next_is, above_start, above_next, above_in, above_mk}
use Rattle.sets.specs.Rising.{Rising, rising_nil, rising_ext, members_rising, above_rising}
use Rattle.sets.specs.declared.Set.{Set}

pub members_none : (s : Set) → same_set s empty_set ≡ true → members s ≡ []
members_none s e = rising_ext (members_rising s) none (λ n. same_truth (λ h. absurd (never n h)) (λ h. absurd (nil_in n h)))
  where
    none : Rising 0 []
    none = rising_nil

    never : (n : ℕ) → in_list n (members s) ≡ true → ⊥
    never n h = clash (members_in s n h).0 (ap (λ (t : Set). member t n) (same_eq s empty_set e) ∙ member_empty n)

-- the least member of a set that is not empty is one of 1 to 64
pub lowest_low : (s : Set) → Small s → same_set s empty_set ≡ false → next_member s 0 < 65
lowest_low s S e = go (dec_lt (next_member s 0) 65)
  where
    go : Dec (next_member s 0 < 65) → next_member s 0 < 65
    go (yes l) = l
    go (no g) =
        let m = member_some s e in
        let l = small_top s S m.0 m.1 in
        absurd (clash m.1 ((next_is s 0).none m.0 (member_pos s m.0 m.1) (omega (arith, g))))

-- the members above the least one r are those of the rest
rest_members : (s : Set) (r : ℕ) → r ≡ next_member s 0 → r < 65 → above s r ≡ members (s ∖ single r)
rest_members s r e l = rising_ext (above_rising s r) (members_rising (s ∖ single r)) (λ n. same_truth (down n) (up n))
  where
    down : (n : ℕ) → in_list n (above s r) ≡ true → in_list n (members (s ∖ single r)) ≡ true
    down n h =
        let a = above_in s r n h in
        members_mk (s ∖ single r) n (difference_mk s (single r) n a.0 (false_of (λ q. let z = single_in r n q in omega arith))) a.2

    at_least : (n : ℕ) → member s n ≡ true → n < r → ⊥
    at_least n m q = clash m ((next_is s 0).none n (member_pos s n m) (rw (← e) q))

    least : 1 ≤ r
    least = rw e (let z = (next_is s 0).low in omega arith)

    up : (n : ℕ) → in_list n (members (s ∖ single r)) ≡ true → in_list n (above s r) ≡ true
    up n h =
        let a = members_in (s ∖ single r) n h in
        let d = difference_in s (single r) n a.0 in
        above_mk s r n d.0 (go (dec_lt n r) (ℕ_discrete r n) d) a.1
      where
        go : Dec (n < r) → Dec (r ≡ n) → (member s n ≡ true) × (member (single r) n ≡ false) → r < n
        go (yes q) g d = absurd (at_least n d.0 q)
        go (no q) (yes g) d = absurd (clash (single_mk r least (omega arith)) (ap (member (single r)) g ∙ d.1))
        go (no q) (no g) d = omega (arith, g)

-- the least member, then those of the rest
pub members_lowest : (s : Set) → Small s → same_set s empty_set ≡ false → members s ≡ next_member s 0 ∷ members (s ∖ single (next_member s 0))
members_lowest s S e =
    let l = lowest_low s S e in
    sym (above_start s) ∙ above_next s 0 (next_member s 0) refl l ∙ ap (λ (xs : List ℕ). next_member s 0 ∷ xs) (rest_members s (next_member s 0) refl l)

-- the rest is smaller
pub lowest_falls : (s : Set) → Small s → same_set s empty_set ≡ false → size (s ∖ single (next_member s 0)) < size s
unfolding size
lowest_falls s S e = let z = ap length (members_lowest s S e) in omega arith

-- ---- what is kept of the members
module _ (p : ℕ → Bool) (s : Set) where
  pub keep_empty : same_set s empty_set ≡ true → keep p s ≡ empty_set
  unfolding keep filtered set_of
  keep_empty e = ap (λ (xs : List ℕ). set_of (filtered p xs)) (members_none s e)

  module _ (S : Small s) (e : same_set s empty_set ≡ false) where
    lowest_first : keep p s ≡ set_of (cons_if (p (next_member s 0)) (next_member s 0) (filtered p (members (s ∖ single (next_member s 0)))))
    unfolding keep filtered
    lowest_first = ap (λ (xs : List ℕ). set_of (filtered p xs)) (members_lowest s S e)

    pub keep_take : p (next_member s 0) ≡ true → keep p s ≡ single (next_member s 0) ∪ keep p (s ∖ single (next_member s 0))
    unfolding keep cons_if set_of
    keep_take t = lowest_first ∙ ap (λ (b : Bool). set_of (cons_if b (next_member s 0) (filtered p (members (s ∖ single (next_member s 0)))))) t

    pub keep_skip : p (next_member s 0) ≡ false → keep p s ≡ keep p (s ∖ single (next_member s 0))
    unfolding keep cons_if
    keep_skip t = lowest_first ∙ ap (λ (b : Bool). set_of (cons_if b (next_member s 0) (filtered p (members (s ∖ single (next_member s 0)))))) t

-- ---- a walk that takes the least member off (`Members`): what is left before and after
pub members_taken : (s t : Set) (r : ℕ) → Small s → same_set s empty_set ≡ false → r ≡ next_member s 0 → t ≡ s ∖ single (next_member s 0)
    → members s ≡ r ∷ members t
members_taken s t r S e q p = rw q (rw p (members_lowest s S e))

-- what comes is a member
pub taken_in : (s : Set) (r : ℕ) (xs : List ℕ) → members s ≡ r ∷ xs → (member s r ≡ true) × (1 ≤ r) × (r ≤ 64)
taken_in s r xs e =
    let m = members_in s r (ap (in_list r) e ∙ cons_here r r xs refl) in (m.0, member_pos s r m.0, m.1)
