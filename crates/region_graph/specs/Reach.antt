-- Reach along edges, grown as often as there are regions, is the least set that has the region and is closed under edges.
use Prim.Native.Nat.{ℕ, zero, suc, ◌≤◌, ◌<◌}
use Rattle.std.specs.Prelude.{Bool, true, false, ◌⊎◌, ◌≡◌, length}
use Rattle.std.proofs.Math.Logic.{inl, inr, ⊎_elim}
use Rattle.std.proofs.Math.Path.{refl, ap}
use Rattle.std.proofs.Common.{sym, ◌∙◌}
use native.Mathlib.Omega.{arith}
use Rattle.sets.specs.Tests.{truth, clash}
use Rattle.sets.specs.Sets.{member, empty_set, single, same_set, subset, Small, member_empty, single_zero, single_mk, single_in, union_right, union_in, same_eq, subset_in, subset_mk}
use Rattle.sets.specs.SetLaws.{subset_antisym, empty_subset, left_union, empty_union, small_single, small_union}
use Rattle.sets.specs.Members.{set_of, union_over, in_list}
use Rattle.sets.specs.MemberLaws.{set_of_in, set_of_mk, small_set_of, union_over_in, union_over_mk, union_over_least, small_union_over}
use Rattle.sets.specs.Size.{size, size_below, size_grows, size_pos}
use Rattle.sets.specs.declared.Set.{Set}
use Rattle.language.specs.Program.{Signature}
use Rattle.language.specs.Typing.{is_region}
use Rattle.language.specs.Regions.{targets, grown, grown_by, reach_from}
use Rattle.laws.specs.Rounds.{rounds}
use Rattle.region_graph.specs.Typed.{region_in_law, region_small}

module _ (S : Signature) where
  -- ---- one edge further
  grown_old : (s : Set) → subset s (grown S s) ≡ true
  unfolding grown
  grown_old s = left_union s _

  grown_new : (s : Set) (u t : ℕ) → member s u ≡ true → u ≤ 64 → in_list t (targets S u) ≡ true → 1 ≤ t → t ≤ 64
      → member (grown S s) t ≡ true
  unfolding grown
  grown_new s u t m l e h k = union_right s _ t (union_over_mk (λ r. set_of (targets S r)) s u t m l (set_of_mk (targets S u) t e h k))

  grown_in : (s : Set) (t : ℕ) → member (grown S s) t ≡ true
      → (member s t ≡ true) ⊎ ((u : ℕ) × (member s u ≡ true) × (in_list t (targets S u) ≡ true))
  unfolding grown
  grown_in s t m =
      ⊎_elim (λ p. inl p)
      (λ q. let o = union_over_in (λ r. set_of (targets S r)) s t q in inr (o.0, o.1, set_of_in (targets S o.0) t o.2))
      (union_in s (union_over (λ r. set_of (targets S r)) s) t m)

  small_grown : (s : Set) → Small s → Small (grown S s)
  unfolding grown
  small_grown s h = small_union h (small_union_over (λ r. set_of (targets S r)) s (λ r m. small_set_of (targets S r)))

  -- ---- any number of edges further
  grown_by_old : (k : ℕ) (s : Set) (n : ℕ) → member s n ≡ true → member (grown_by S k s) n ≡ true
  unfolding grown_by
  grown_by_old zero s n m = m
  grown_by_old (suc k) s n m = subset_in _ _ (grown_old (grown_by S k s)) n (grown_by_old k s n m)

  small_grown_by : (k : ℕ) (s : Set) → Small s → Small (grown_by S k s)
  unfolding grown_by
  small_grown_by zero s h = h
  small_grown_by (suc k) s h = small_grown (grown_by S k s) (small_grown_by k s h)

  -- a test that s passes and that edges lead on passes for all that is grown
  module _ (within : ℕ → Bool) (onward : (u t : ℕ) → within u ≡ true → in_list t (targets S u) ≡ true → within t ≡ true) where
    grown_by_least : (k : ℕ) (s : Set) → ((u : ℕ) → member s u ≡ true → within u ≡ true)
        → (u : ℕ) → member (grown_by S k s) u ≡ true → within u ≡ true
    unfolding grown_by
    grown_by_least zero s h u m = h u m
    grown_by_least (suc k) s h u m =
        ⊎_elim (grown_by_least k s h u) (λ o. onward o.0 u (grown_by_least k s h o.0 o.1) o.2) (grown_in (grown_by S k s) u m)

    pub reach_least : (r : ℕ) → within r ≡ true → (u : ℕ) → member (reach_from S r) u ≡ true → within u ≡ true
    unfolding reach_from
    reach_least r h = grown_by_least (length S.regions) (single r) (λ u m. ap within (sym (single_in r u m)) ∙ h)

  -- region 0 is none
  grown_empty : grown S empty_set ≡ empty_set
  unfolding grown
  grown_empty =
      empty_union _
      ∙ subset_antisym _ empty_set (union_over_least _ empty_set empty_set (λ x m l. absurd (clash m (member_empty x)))) (empty_subset _)

  grown_by_empty : (k : ℕ) → grown_by S k empty_set ≡ empty_set
  unfolding grown_by
  grown_by_empty zero = refl
  grown_by_empty (suc k) = ap (grown S) (grown_by_empty k) ∙ grown_empty

  pub reach_nowhere : reach_from S 0 ≡ empty_set
  unfolding reach_from
  reach_nowhere = ap (grown_by S (length S.regions)) single_zero ∙ grown_by_empty (length S.regions)

-- ---- a procedure's edges lead to regions
module _ (S : Signature) (few : length S.regions ≤ 64)
    (leads : (r t : ℕ) → is_region S r ≡ true → in_list t (targets S r) ≡ true → is_region S t ≡ true) where
  grown_by_ranged : (k r u : ℕ) → is_region S r ≡ true → member (grown_by S k (single r)) u ≡ true → is_region S u ≡ true
  grown_by_ranged k r u h m =
      grown_by_least S (is_region S) leads k (single r) (λ w i. ap (is_region S) (sym (single_in r w i)) ∙ h) u m

  -- each round adds a region, or nothing is left to add
  more : (before : Set) → Small before → (grown S before ≡ before) ⊎ (size before < size (grown S before))
  more before h = go (truth (same_set before (grown S before)))
    where
      go : (same_set before (grown S before) ≡ true) ⊎ (same_set before (grown S before) ≡ false) → (grown S before ≡ before) ⊎ (size before < size (grown S before))
      go (inl e) = inl (sym (same_eq before (grown S before) e))
      go (inr e) = inr (size_grows before (grown S before) (small_grown S before h) (grown_old S before) e)

  grown_rounds : (k r : ℕ) → is_region S r ≡ true
      → (grown S (grown_by S k (single r)) ≡ grown_by S k (single r)) ⊎ (suc k ≤ size (grown_by S k (single r)))
  unfolding grown_by
  grown_rounds k r h =
      let i = region_small S few r h in
      rounds (grown S) size (λ n. grown_by S n (single r)) (λ n. refl) (λ n. more (grown_by S n (single r)) (small_grown_by S n (single r) (small_single r)))
      (size_pos (single r) r (single_mk r i.0 i.1) i.1) k

  stable : (r : ℕ) → is_region S r ≡ true → grown S (reach_from S r) ≡ reach_from S r
  unfolding reach_from
  stable r h = ⊎_elim (λ p. p) (λ q. absurd (full q)) (grown_rounds (length S.regions) r h)
    where
      full : suc (length S.regions) ≤ size (grown_by S (length S.regions) (single r)) → ⊥
      full q =
          let l = size_below (grown_by S (length S.regions) (single r)) (length S.regions)
          (λ n m. (region_in_law S n (grown_by_ranged (length S.regions) r n h m)).1) in
          omega arith

  pub reach_self : (r : ℕ) → is_region S r ≡ true → member (reach_from S r) r ≡ true
  unfolding reach_from
  reach_self r h = let i = region_small S few r h in grown_by_old S (length S.regions) (single r) r (single_mk r i.0 i.1)

  pub reach_ranged : (r u : ℕ) → is_region S r ≡ true → member (reach_from S r) u ≡ true → is_region S u ≡ true
  unfolding reach_from
  reach_ranged r u h m = grown_by_ranged (length S.regions) r u h m

  pub reach_closed : (r u t : ℕ) → is_region S r ≡ true → member (reach_from S r) u ≡ true → in_list t (targets S u) ≡ true
      → member (reach_from S r) t ≡ true
  reach_closed r u t h m e =
      let v = reach_ranged r u h m in
      let i = region_small S few u v in
      let j = region_small S few t (leads u t v e) in
      ap (λ (s : Set). member s t) (sym (stable r h)) ∙ grown_new S (reach_from S r) u t m i.1 e j.0 j.1

  pub reach_onward : (r t : ℕ) → is_region S r ≡ true → in_list t (targets S r) ≡ true → subset (reach_from S t) (reach_from S r) ≡ true
  reach_onward r t h e =
      subset_mk (reach_from S t) (reach_from S r)
      (reach_least S (member (reach_from S r)) (λ u v. reach_closed r u v h) t (reach_closed r r t h (reach_self r h) e))
