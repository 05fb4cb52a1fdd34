-- Laws of the sets and tests that go through lists and members: `set_of`, `keep`, `union_over`, `image`, `every`.
-- Names: `X_mk` makes a member of X, `X_in` says what a member of X is.
-- Assumes nothing.
use Rattle.std.specs.Prelude.{◌≡◌, refl, Bool, true, false, List, [], ◌∷◌, ◌⊎◌, ℕ, ◌≤◌}
use Rattle.std.proofs.Common.{sym, ap, ◌∙◌, inl, inr, ⊎_elim}
use Rattle.sets.specs.Tests.{truth, clash, same_truth, and_true, and_false}
use Rattle.sets.specs.Sets.{member, single, subset, Small, member_pos, member_empty, single_mk, single_in, union_left, union_right, union_in, member_ext, subset_in, subset_mk}
use Rattle.sets.specs.SetLaws.{small_top, small_mk, small_empty, small_single, small_union}
use Rattle.sets.specs.Members.{members, set_of, filtered, keep, union_all, union_over, image, all_of, every, in_list, nil_in, cons_in, cons_here, cons_later, cons_if_in, cons_if_here, cons_if_later, members_in, members_mk}
use Rattle.sets.specs.declared.Set.{Set}

-- ---- the set of a list
pub set_of_in : (xs : List ℕ) (n : ℕ) → member (set_of xs) n ≡ true → in_list n xs ≡ true
unfolding set_of
set_of_in [] n e = absurd (clash e (member_empty n))
set_of_in (x ∷ xs) n e =
    ⊎_elim (λ p. cons_here n x xs (single_in x n p)) (λ q. cons_later n x xs (set_of_in xs n q)) (union_in (single x) (set_of xs) n e)

pub set_of_mk : (xs : List ℕ) (n : ℕ) → in_list n xs ≡ true → 1 ≤ n → n ≤ 64 → member (set_of xs) n ≡ true
unfolding set_of
set_of_mk [] n e h l = absurd (nil_in n e)
set_of_mk (x ∷ xs) n e h l =
    ⊎_elim (λ p. union_left _ _ n (ap (λ (k : ℕ). member (single k) n) p ∙ single_mk n h l))
    (λ q. union_right (single x) _ n (set_of_mk xs n q h l)) (cons_in n x xs e)

pub small_set_of : (xs : List ℕ) → Small (set_of xs)
unfolding set_of
small_set_of [] = small_empty
small_set_of (x ∷ xs) = small_union (small_single x) (small_set_of xs)

-- a set is the set of its members
pub set_of_members : (s : Set) → Small s → set_of (members s) ≡ s
set_of_members s h = member_ext (set_of (members s)) s (λ n. same_truth (down n) (up n))
  where
    down : (n : ℕ) → member (set_of (members s)) n ≡ true → member s n ≡ true
    down n e = (members_in s n (set_of_in (members s) n e)).0

    up : (n : ℕ) → member s n ≡ true → member (set_of (members s)) n ≡ true
    up n e = let l = small_top s h n e in set_of_mk (members s) n (members_mk s n e l) (member_pos s n e) l

-- ---- the members that pass a test
pub filtered_in : (p : ℕ → Bool) (xs : List ℕ) (n : ℕ) → in_list n (filtered p xs) ≡ true → (in_list n xs ≡ true) × (p n ≡ true)
unfolding filtered
filtered_in p [] n e = absurd (nil_in n e)
filtered_in p (x ∷ xs) n e =
    ⊎_elim (λ q. (cons_here n x xs q.1, ap p (sym q.1) ∙ q.0))
    (λ q. let r = filtered_in p xs n q in (cons_later n x xs r.0, r.1)) (cons_if_in (p x) n x (filtered p xs) e)

pub filtered_mk : (p : ℕ → Bool) (xs : List ℕ) (n : ℕ) → in_list n xs ≡ true → p n ≡ true → in_list n (filtered p xs) ≡ true
unfolding filtered
filtered_mk p [] n e t = absurd (nil_in n e)
filtered_mk p (x ∷ xs) n e t =
    ⊎_elim (λ q. cons_if_here (p x) n x _ (ap p q ∙ t) q) (λ q. cons_if_later (p x) n x _ (filtered_mk p xs n q t)) (cons_in n x xs e)

module _ (p : ℕ → Bool) (s : Set) where
  pub keep_in : (n : ℕ) → member (keep p s) n ≡ true → (member s n ≡ true) × (p n ≡ true)
  unfolding keep
  keep_in n e =
      let r = filtered_in p (members s) n (set_of_in (filtered p (members s)) n e) in
      ((members_in s n r.0).0, r.1)

  pub keep_mk : (n : ℕ) → member s n ≡ true → n ≤ 64 → p n ≡ true → member (keep p s) n ≡ true
  unfolding keep
  keep_mk n e l t =
      set_of_mk (filtered p (members s)) n (filtered_mk p (members s) n (members_mk s n e l) t) (member_pos s n e) l

  pub small_keep : Small (keep p s)
  unfolding keep
  small_keep = small_set_of (filtered p (members s))

  pub keep_subset : subset (keep p s) s ≡ true
  keep_subset = subset_mk (keep p s) s (λ n e. (keep_in n e).0)

-- ---- the union over the members
union_all_in : (f : ℕ → Set) (xs : List ℕ) (n : ℕ) → member (union_all f xs) n ≡ true
    → (x : ℕ) × (in_list x xs ≡ true) × (member (f x) n ≡ true)
unfolding union_all
union_all_in f [] n e = absurd (clash e (member_empty n))
union_all_in f (x ∷ xs) n e =
    ⊎_elim (λ q. (x, cons_here x x xs refl, q))
    (λ q. let r = union_all_in f xs n q in (r.0, cons_later r.0 x xs r.1, r.2)) (union_in (f x) (union_all f xs) n e)

union_all_mk : (f : ℕ → Set) (xs : List ℕ) (x n : ℕ) → in_list x xs ≡ true → member (f x) n ≡ true → member (union_all f xs) n ≡ true
unfolding union_all
union_all_mk f [] x n e t = absurd (nil_in x e)
union_all_mk f (y ∷ ys) x n e t =
    ⊎_elim (λ q. union_left _ _ n (ap (λ (k : ℕ). member (f k) n) q ∙ t)) (λ q. union_right (f y) _ n (union_all_mk f ys x n q t))
    (cons_in x y ys e)

module _ (f : ℕ → Set) (s : Set) where
  pub union_over_in : (n : ℕ) → member (union_over f s) n ≡ true
      → (x : ℕ) × (member s x ≡ true) × (member (f x) n ≡ true) × (x ≤ 64)
  unfolding union_over
  union_over_in n e =
      let r = union_all_in f (members s) n e in
      let q = members_in s r.0 r.1 in
      (r.0, q.0, r.2, q.1)

  pub union_over_mk : (x n : ℕ) → member s x ≡ true → x ≤ 64 → member (f x) n ≡ true → member (union_over f s) n ≡ true
  unfolding union_over
  union_over_mk x n e l t = union_all_mk f (members s) x n (members_mk s x e l) t

  pub small_union_over : ((x : ℕ) → member s x ≡ true → Small (f x)) → Small (union_over f s)
  small_union_over h =
      small_mk (union_over f s) (λ n e. let r = union_over_in n e in small_top (f r.0) (h r.0 r.1) n r.2)

  pub union_over_least : (t : Set) → ((x : ℕ) → member s x ≡ true → x ≤ 64 → subset (f x) t ≡ true)
      → subset (union_over f s) t ≡ true
  union_over_least t h =
      subset_mk (union_over f s) t (λ n e. let r = union_over_in n e in subset_in (f r.0) t (h r.0 r.1 r.3) n r.2)

pub union_over_mono : (f g : ℕ → Set) (a b : Set) → ((x : ℕ) → subset (f x) (g x) ≡ true) → subset a b ≡ true
    → subset (union_over f a) (union_over g b) ≡ true
union_over_mono f g a b h l =
    union_over_least f a (union_over g b)
    (λ x e t. subset_mk (f x) (union_over g b) (λ n m. union_over_mk g b x n (subset_in a b l x e) t (subset_in (f x) (g x) (h x) n m)))

-- ---- the images
module _ (f : ℕ → ℕ) (s : Set) where
  pub image_in_law : (n : ℕ) → member (image f s) n ≡ true → (x : ℕ) × (member s x ≡ true) × (f x ≡ n) × (x ≤ 64)
  unfolding image
  image_in_law n e =
      let r = union_over_in (λ x. single (f x)) s n e in
      (r.0, r.1, single_in (f r.0) n r.2, r.3)

  pub image_mk : (x : ℕ) → member s x ≡ true → x ≤ 64 → 1 ≤ f x → f x ≤ 64 → member (image f s) (f x) ≡ true
  unfolding image
  image_mk x e l h t = union_over_mk (λ x. single (f x)) s x (f x) e l (single_mk (f x) h t)

  pub small_image : Small (image f s)
  unfolding image
  small_image = small_union_over (λ x. single (f x)) s (λ x e. small_single (f x))

-- ---- a test of every member
all_of_in : (p : ℕ → Bool) (xs : List ℕ) (n : ℕ) → all_of p xs ≡ true → in_list n xs ≡ true → p n ≡ true
unfolding all_of
all_of_in p [] n e m = absurd (nil_in n m)
all_of_in p (x ∷ xs) n e m =
    let r = and_true e in
    ⊎_elim (λ q. ap p (sym q) ∙ r.0) (all_of_in p xs n r.1) (cons_in n x xs m)

all_of_fails : (p : ℕ → Bool) (xs : List ℕ) → all_of p xs ≡ false → (n : ℕ) × (in_list n xs ≡ true) × (p n ≡ false)
unfolding all_of
all_of_fails p [] e = absurd (clash refl e)
all_of_fails p (x ∷ xs) e =
    ⊎_elim (λ q. (x, cons_here x x xs refl, q)) (λ q. let r = all_of_fails p xs q in (r.0, cons_later r.0 x xs r.1, r.2)) (and_false e)

module _ (p : ℕ → Bool) (s : Set) where
  pub every_in_law : every p s ≡ true → (n : ℕ) → member s n ≡ true → n ≤ 64 → p n ≡ true
  unfolding every
  every_in_law e n m l = all_of_in p (members s) n e (members_mk s n m l)

  pub every_fails : every p s ≡ false → (n : ℕ) × (member s n ≡ true) × (p n ≡ false) × (n ≤ 64)
  unfolding every
  every_fails e =
      let r = all_of_fails p (members s) e in
      let q = members_in s r.0 r.1 in
      (r.0, q.0, r.2, q.1)

  pub every_mk : ((n : ℕ) → member s n ≡ true → n ≤ 64 → p n ≡ true) → every p s ≡ true
  every_mk h = go (truth (every p s))
    where
      go : (every p s ≡ true) ⊎ (every p s ≡ false) → every p s ≡ true
      go (inl e) = e
      go (inr e) = let r = every_fails e in absurd (clash (h r.0 r.1 r.3) r.2)
