-- A few more laws of sets: the empty set, differences and intersections.
use Rattle.std.specs.Prelude.{ℕ, ◌≡◌, refl, Bool, true, false, List, [], ◌∷◌}
use Rattle.std.proofs.Common.{sym, ap, ◌∙◌, ⊎_elim}
use Rattle.sets.specs.Tests.{truth, clash, false_of}
use Rattle.sets.specs.Sets.{member, empty_set, single, ◌∪◌, ◌∩◌, ◌∖◌, subset, apart, Small, member_empty, single_in, union_left, union_right, union_in, intersection_mk, intersection_in, difference_mk, difference_in, subset_mk}
use Rattle.sets.specs.SetLaws.{subset_refl, subset_antisym, empty_subset, union_empty, intersection_right, intersection_most, difference_left, apart_mk, small_top}
use Rattle.sets.specs.Members.{members, keep, in_list, cons_here, members_in}
use Rattle.sets.specs.MemberLaws.{keep_mk, keep_subset}
use Rattle.sets.specs.declared.Set.{Set}

-- ---- the empty set
pub empty_in : (s : Set) → s ≡ empty_set → (n : ℕ) → member s n ≡ true → ⊥
empty_in s e n m = clash m (ap (λ (t : Set). member t n) e ∙ member_empty n)

pub difference_empty : (a : Set) → a ∖ empty_set ≡ a
difference_empty a =
    subset_antisym (a ∖ empty_set) a (difference_left a empty_set) (subset_mk _ _ (λ n h. difference_mk a empty_set n h (member_empty n)))

-- where nothing goes and nothing comes
pub no_change : (a : Set) → (a ∖ empty_set) ∪ empty_set ≡ a
no_change a = union_empty (a ∖ empty_set) ∙ difference_empty a

pub empty_apart : (a : Set) → apart empty_set a ≡ true
empty_apart a = apart_mk empty_set a (λ n h. absurd (clash h (member_empty n)))

pub apart_empty : (a : Set) → apart a empty_set ≡ true
apart_empty a = apart_mk a empty_set (λ n h. member_empty n)

pub keep_empty : (p : ℕ → Bool) → keep p empty_set ≡ empty_set
keep_empty p = subset_antisym (keep p empty_set) empty_set (keep_subset p empty_set) (empty_subset (keep p empty_set))

no_members : (xs : List ℕ) → ((n : ℕ) → in_list n xs ≡ true → ⊥) → xs ≡ []
no_members [] f = refl
no_members (x ∷ xs) f = absurd (f x (cons_here x x xs refl))

pub members_empty : members empty_set ≡ []
members_empty = no_members (members empty_set) (λ n i. clash (members_in empty_set n i).0 (member_empty n))

-- ---- single members, and members that pass a test
pub single_apart : (n : ℕ) (s : Set) → member s n ≡ false → apart (single n) s ≡ true
single_apart n s e = apart_mk (single n) s (λ k m. ap (member s) (sym (single_in n k m)) ∙ e)

pub keep_all : (p : ℕ → Bool) (s : Set) → Small s → ((n : ℕ) → p n ≡ true) → keep p s ≡ s
keep_all p s h f =
    subset_antisym (keep p s) s (keep_subset p s) (subset_mk s (keep p s) (λ n m. keep_mk p s n m (small_top s h n m) (f n)))

-- ---- differences and intersections
-- what is in neither
pub difference_union : (a b c : Set) → (a ∖ b) ∖ c ≡ a ∖ (b ∪ c)
difference_union a b c = subset_antisym ((a ∖ b) ∖ c) (a ∖ (b ∪ c)) (subset_mk _ _ there) (subset_mk _ _ back)
  where
    there : (n : ℕ) → member ((a ∖ b) ∖ c) n ≡ true → member (a ∖ (b ∪ c)) n ≡ true
    there n h =
        let r = difference_in (a ∖ b) c n h in
        let q = difference_in a b n r.0 in
        difference_mk a (b ∪ c) n q.0 (false_of (λ m. ⊎_elim (λ i. clash i q.1) (λ i. clash i r.1) (union_in b c n m)))

    back : (n : ℕ) → member (a ∖ (b ∪ c)) n ≡ true → member ((a ∖ b) ∖ c) n ≡ true
    back n h =
        let r = difference_in a (b ∪ c) n h in
        difference_mk (a ∖ b) c n (difference_mk a b n r.0 (false_of (λ i. clash (union_left b c n i) r.1)))
        (false_of (λ i. clash (union_right b c n i) r.1))

-- without what is outside b, the part in b is left
pub difference_difference : (a b : Set) → a ∖ (a ∖ b) ≡ a ∩ b
difference_difference a b = subset_antisym (a ∖ (a ∖ b)) (a ∩ b) (subset_mk _ _ there) (subset_mk _ _ back)
  where
    there : (n : ℕ) → member (a ∖ (a ∖ b)) n ≡ true → member (a ∩ b) n ≡ true
    there n h =
        let r = difference_in a (a ∖ b) n h in
        intersection_mk a b n r.0 (⊎_elim (λ i. i) (λ i. absurd (clash (difference_mk a b n r.0 i) r.1)) (truth (member b n)))

    back : (n : ℕ) → member (a ∩ b) n ≡ true → member (a ∖ (a ∖ b)) n ≡ true
    back n h =
        let r = intersection_in a b n h in
        difference_mk a (a ∖ b) n r.0 (false_of (λ i. clash r.1 (difference_in a b n i).1))

pub intersection_whole : (a b : Set) → subset b a ≡ true → a ∩ b ≡ b
intersection_whole a b h = subset_antisym (a ∩ b) b (intersection_right a b) (intersection_most a b b h (subset_refl b))

pub difference_self : (a : Set) → a ∖ a ≡ empty_set
difference_self a =
    subset_antisym (a ∖ a) empty_set (subset_mk _ _ (λ n h. let r = difference_in a a n h in absurd (clash r.0 r.1))) (empty_subset _)
