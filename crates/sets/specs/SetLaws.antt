-- Laws of sets that follow from those of `Sets`: subsets, unions, sets apart, and sets with no member above 64.
-- Assumes nothing.
use Rattle.std.specs.Prelude.{◌≡◌, true, false, ◌⊎◌, ℕ, ◌≤◌, ◌<◌}
use Rattle.std.proofs.Common.{sym, ap, ◌∙◌, inl, inr, ⊎_elim, arith}
use Rattle.std.proofs.Math.Decide.{dec_lt}
use Rattle.sets.specs.Tests.{truth, clash, false_of, same_truth}
use Rattle.sets.specs.Sets.{member, empty_set, single, ◌∪◌, ◌∩◌, ◌∖◌, subset, apart, Small, member_empty, single_high, single_in}
use Rattle.sets.specs.Sets.{union_left, union_right, union_in, intersection_mk, intersection_in, difference_in, member_ext, same_eq, member_some, subset_in, subset_mk}
use Rattle.sets.specs.declared.Set.{Set}

-- ---- the order by subset
pub subset_refl : (a : Set) → subset a a ≡ true
subset_refl a = subset_mk a a (λ n h. h)

pub subset_trans : (a b c : Set) → subset a b ≡ true → subset b c ≡ true → subset a c ≡ true
subset_trans a b c p q = subset_mk a c (λ n h. subset_in b c q n (subset_in a b p n h))

pub subset_antisym : (a b : Set) → subset a b ≡ true → subset b a ≡ true → a ≡ b
subset_antisym a b p q = member_ext a b (λ n. same_truth (subset_in a b p n) (subset_in b a q n))

pub empty_subset : (a : Set) → subset empty_set a ≡ true
empty_subset a = subset_mk empty_set a (λ n h. absurd (clash h (member_empty n)))

pub single_subset : (n : ℕ) (s : Set) → member s n ≡ true → subset (single n) s ≡ true
single_subset n s e = subset_mk (single n) s (λ k h. ap (member s) (sym (single_in n k h)) ∙ e)

-- ---- the union is the least set that holds both
pub left_union : (a b : Set) → subset a (a ∪ b) ≡ true
left_union a b = subset_mk a (a ∪ b) (union_left a b)

pub right_union : (a b : Set) → subset b (a ∪ b) ≡ true
right_union a b = subset_mk b (a ∪ b) (union_right a b)

pub union_least : (a b t : Set) → subset a t ≡ true → subset b t ≡ true → subset (a ∪ b) t ≡ true
union_least a b t p q =
    subset_mk (a ∪ b) t (λ n h. ⊎_elim (subset_in a t p n) (subset_in b t q n) (union_in a b n h))

pub union_subset : (a b : Set) → subset a b ≡ true → a ∪ b ≡ b
union_subset a b p = subset_antisym (a ∪ b) b (union_least a b b p (subset_refl b)) (right_union a b)

pub union_mono : (a b c d : Set) → subset a c ≡ true → subset b d ≡ true → subset (a ∪ b) (c ∪ d) ≡ true
union_mono a b c d p q =
    union_least a b (c ∪ d) (subset_trans a c (c ∪ d) p (left_union c d)) (subset_trans b d (c ∪ d) q (right_union c d))

pub union_empty : (a : Set) → a ∪ empty_set ≡ a
union_empty a = subset_antisym (a ∪ empty_set) a (union_least a empty_set a (subset_refl a) (empty_subset a)) (left_union a empty_set)

pub empty_union : (a : Set) → empty_set ∪ a ≡ a
empty_union a = union_subset empty_set a (empty_subset a)

pub union_comm : (a b : Set) → a ∪ b ≡ b ∪ a
union_comm a b =
    subset_antisym (a ∪ b) (b ∪ a) (union_least a b (b ∪ a) (right_union b a) (left_union b a))
    (union_least b a (a ∪ b) (right_union a b) (left_union a b))

pub union_assoc : (a b c : Set) → (a ∪ b) ∪ c ≡ a ∪ (b ∪ c)
union_assoc a b c =
    subset_antisym (a ∪ b ∪ c) (a ∪ (b ∪ c))
    (union_least (a ∪ b) c (a ∪ (b ∪ c)) (union_mono a b a (b ∪ c) (subset_refl a) (left_union b c))
    (subset_trans c (b ∪ c) (a ∪ (b ∪ c)) (right_union b c) (right_union a (b ∪ c))))
    (union_least a (b ∪ c) (a ∪ b ∪ c) (subset_trans a (a ∪ b) (a ∪ b ∪ c) (left_union a b) (left_union (a ∪ b) c))
    (union_mono b c (a ∪ b) c (right_union a b) (subset_refl c)))

-- ---- parts
pub intersection_left : (a b : Set) → subset (a ∩ b) a ≡ true
intersection_left a b = subset_mk (a ∩ b) a (λ n h. (intersection_in a b n h).0)

pub intersection_right : (a b : Set) → subset (a ∩ b) b ≡ true
intersection_right a b = subset_mk (a ∩ b) b (λ n h. (intersection_in a b n h).1)

pub intersection_most : (a b t : Set) → subset t a ≡ true → subset t b ≡ true → subset t (a ∩ b) ≡ true
intersection_most a b t p q = subset_mk t (a ∩ b) (λ n h. intersection_mk a b n (subset_in t a p n h) (subset_in t b q n h))

pub intersection_comm : (a b : Set) → a ∩ b ≡ b ∩ a
intersection_comm a b =
    subset_antisym (a ∩ b) (b ∩ a) (intersection_most b a (a ∩ b) (intersection_right a b) (intersection_left a b))
    (intersection_most a b (b ∩ a) (intersection_right b a) (intersection_left b a))

pub difference_left : (a b : Set) → subset (a ∖ b) a ≡ true
difference_left a b = subset_mk (a ∖ b) a (λ n h. (difference_in a b n h).0)

-- ---- sets with no common member
pub apart_in : (a b : Set) → apart a b ≡ true → (n : ℕ) → member a n ≡ true → member b n ≡ false
unfolding apart
apart_in a b e n h =
    false_of (λ q. clash (intersection_mk a b n h q) (ap (λ (s : Set). member s n) (same_eq (a ∩ b) empty_set e) ∙ member_empty n))

-- some member of a is one of b
pub apart_fails : (a b : Set) → apart a b ≡ false → (n : ℕ) × (member a n ≡ true) × (member b n ≡ true)
unfolding apart
apart_fails a b e =
    let r = member_some (a ∩ b) e in
    let p = intersection_in a b r.0 r.1 in
    (r.0, p.0, p.1)

pub apart_mk : (a b : Set) → ((n : ℕ) → member a n ≡ true → member b n ≡ false) → apart a b ≡ true
apart_mk a b f = go (truth (apart a b))
  where
    go : (apart a b ≡ true) ⊎ (apart a b ≡ false) → apart a b ≡ true
    go (inl p) = p
    go (inr q) = let r = apart_fails a b q in absurd (clash r.2 (f r.0 r.1))

pub apart_sym : (a b : Set) → apart a b ≡ true → apart b a ≡ true
apart_sym a b e = apart_mk b a (λ n p. false_of (λ q. clash p (apart_in a b e n q)))

pub apart_mono : (a b c d : Set) → subset a c ≡ true → subset b d ≡ true → apart c d ≡ true → apart a b ≡ true
apart_mono a b c d p q e =
    apart_mk a b (λ n h. false_of (λ t. clash (subset_in b d q n t) (apart_in c d e n (subset_in a c p n h))))

pub difference_apart : (a b : Set) → apart (a ∖ b) b ≡ true
difference_apart a b = apart_mk (a ∖ b) b (λ n h. (difference_in a b n h).1)

-- ---- no member above 64
pub small_top : (s : Set) → Small s → (n : ℕ) → member s n ≡ true → n ≤ 64
small_top s h n e = go (dec_lt 64 n)
  where
    go : Dec (64 < n) → n ≤ 64
    go (yes l) = absurd (clash e (h.high n l))
    go (no f) = omega arith

pub small_mk : (s : Set) → ((n : ℕ) → member s n ≡ true → n ≤ 64) → Small s
small_mk s f = record { high = λ n l. false_of (λ e. let h = f n e in omega arith) }

pub small_subset : (a b : Set) → subset a b ≡ true → Small b → Small a
small_subset a b p h = small_mk a (λ n e. small_top b h n (subset_in a b p n e))

pub small_empty : Small empty_set
small_empty = small_mk empty_set (λ n e. absurd (clash e (member_empty n)))

pub small_single : (n : ℕ) → Small (single n)
small_single n = small_mk (single n) (λ k e. go k e (dec_lt 64 n))
  where
    go : (k : ℕ) → member (single n) k ≡ true → Dec (64 < n) → k ≤ 64
    go k e (yes h) = absurd (clash e (ap (λ (s : Set). member s k) (single_high n h) ∙ member_empty k))
    go k e (no f) = let q = single_in n k e in omega arith

pub small_union : {a b : Set} → Small a → Small b → Small (a ∪ b)
small_union {a} {b} p q = small_mk (a ∪ b) (λ n e. ⊎_elim (small_top a p n) (small_top b q n) (union_in a b n e))

pub small_intersection : {a : Set} (b : Set) → Small a → Small (a ∩ b)
small_intersection {a} b p = small_subset (a ∩ b) a (intersection_left a b) p

pub small_difference : {a : Set} (b : Set) → Small a → Small (a ∖ b)
small_difference {a} b p = small_subset (a ∖ b) a (difference_left a b) p
