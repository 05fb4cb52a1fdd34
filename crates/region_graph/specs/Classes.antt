-- Born, dead and kept regions: what they are by number 3, and how number 7 places them among the input and output regions.
use Rattle.std.specs.Prelude.{ℕ, zero, suc, ◌≤◌, Bool, true, List, ◌⊎◌, ◌≡◌, refl}
use Rattle.std.proofs.Common.{⊎_elim, arith}
use borrow.Author.Tests.{eqb-true, eq-eqb}
use Rattle.std.proofs.Math.Dec.{eqb}
use Rattle.sets.specs.Tests.{◌or◌, neg, clash, false_of, and_true, or_true, neg_true}
use Rattle.sets.specs.Sets.{member, ◌∪◌, ◌∖◌, subset, apart, union_left, union_right, union_in, subset_mk}
use Rattle.sets.specs.SetLaws.{subset_trans, left_union, right_union, union_least, difference_left, difference_apart, apart_in, apart_mk, apart_mono, subset_refl}
use Rattle.sets.specs.Members.{every}
use Rattle.sets.specs.MemberLaws.{keep_in, keep_mk, every_in_law}
use Rattle.sets.specs.declared.Set.{Set}
use Rattle.language.specs.Program.{Functor, Signature, region_at}
use Rattle.language.specs.Typing.{is_region}
use Rattle.language.specs.Lifetimes.{inputs, outputs, of_class, declared, born, dead, kept, unshared_in, classes_ok}
use Rattle.region_graph.specs.Laws.{Declared, shared}
use Rattle.region_graph.specs.Typed.{declared_in, declared_mk}
use Rattle.region_graph.specs.Shared.{region_top, shared_ranged}

-- ---- what a born, dead or kept region is
module _ (S : Signature) where
  of_class_in_law : (c : ℕ) (rs : Set) (r : ℕ) → member (of_class S c rs) r ≡ true → (member rs r ≡ true) × ((region_at S r).class ≡ c)
  unfolding of_class
  of_class_in_law c rs r m = let i = keep_in (λ q. eqb (region_at S q).class c) rs r m in (i.0, eqb-true (region_at S r).class c i.1)

  of_class_mk : (c : ℕ) (rs : Set) (r : ℕ) → member rs r ≡ true → r ≤ 64 → (region_at S r).class ≡ c → member (of_class S c rs) r ≡ true
  unfolding of_class
  of_class_mk c rs r m l e = keep_mk (λ q. eqb (region_at S q).class c) rs r m l (eq-eqb (region_at S r).class c e)

  pub born_in : (r : ℕ) → member (born S) r ≡ true → (is_region S r ≡ true) × ((region_at S r).class ≡ 1)
  unfolding born
  born_in r m = let i = of_class_in_law 1 (declared S) r m in (declared_in S r i.0, i.1)

  pub dead_in : (r : ℕ) → member (dead S) r ≡ true → (is_region S r ≡ true) × ((region_at S r).class ≡ 2)
  unfolding dead
  dead_in r m = let i = of_class_in_law 2 (declared S) r m in (declared_in S r i.0, i.1)

  pub kept_in : (r : ℕ) → member (kept S) r ≡ true → shared S r × ((region_at S r).class ≡ 0)
  unfolding kept
  kept_in r m = of_class_in_law 0 (inputs S ∪ outputs S) r m

  pub kept_shared_law : subset (kept S) (inputs S ∪ outputs S) ≡ true
  kept_shared_law = subset_mk (kept S) (inputs S ∪ outputs S) (λ r m. (kept_in r m).0)

  -- no region is two of them
  pub born_dead : apart (born S) (dead S) ≡ true
  born_dead = apart_mk (born S) (dead S) (λ r p. false_of (λ q. let a = (born_in r p).1 in let b = (dead_in r q).1 in omega arith))

  pub born_kept : apart (born S) (kept S) ≡ true
  born_kept = apart_mk (born S) (kept S) (λ r p. false_of (λ q. let a = (born_in r p).1 in let b = (kept_in r q).1 in omega arith))

  pub dead_kept_law : apart (dead S) (kept S) ≡ true
  dead_kept_law = apart_mk (dead S) (kept S) (λ r p. false_of (λ q. let a = (dead_in r p).1 in let b = (kept_in r q).1 in omega arith))

module _ (T : List (List Functor)) (S : Signature) (D : Declared T S) where
  pub born_mk : (r : ℕ) → is_region S r ≡ true → (region_at S r).class ≡ 1 → member (born S) r ≡ true
  unfolding born
  born_mk r h e = of_class_mk S 1 (declared S) r (declared_mk S D.regions r h) (region_top T S D r h).1 e

  pub dead_mk : (r : ℕ) → is_region S r ≡ true → (region_at S r).class ≡ 2 → member (dead S) r ≡ true
  unfolding dead
  dead_mk r h e = of_class_mk S 2 (declared S) r (declared_mk S D.regions r h) (region_top T S D r h).1 e

  pub kept_mk : (r : ℕ) → shared S r → (region_at S r).class ≡ 0 → member (kept S) r ≡ true
  unfolding kept
  kept_mk r m e = of_class_mk S 0 (inputs S ∪ outputs S) r m (region_top T S D r (shared_ranged T S D r m)).1 e

  pub kept_ranged : (r : ℕ) → member (kept S) r ≡ true → is_region S r ≡ true
  kept_ranged r m = shared_ranged T S D r (kept_in S r m).0

  -- an input or output region is of one of the three classes
  pub shared_classed : (r : ℕ) → shared S r → member (kept S ∪ born S ∪ dead S) r ≡ true
  shared_classed r m = go (region_at S r).class refl (D.class r)
    where
      region : is_region S r ≡ true
      region = shared_ranged T S D r m

      go : (c : ℕ) → (region_at S r).class ≡ c → (region_at S r).class ≤ 2 → member (kept S ∪ born S ∪ dead S) r ≡ true
      go zero e l = union_left (kept S ∪ born S) (dead S) r (union_left (kept S) (born S) r (kept_mk r m e))
      go (suc zero) e l = union_left (kept S ∪ born S) (dead S) r (union_right (kept S) (born S) r (born_mk r region e))
      go (suc (suc zero)) e l = union_right (kept S ∪ born S) (dead S) r (dead_mk r region e)
      go (suc (suc (suc c))) e l = absurd (omega arith)

-- "An image of a dead or born one is no other region's image."
pub unshared_in_law : (m : ℕ → ℕ) (rs others : Set) → unshared_in m rs others ≡ true
    → (r q : ℕ) → member rs r ≡ true → r ≤ 64 → member others q ≡ true → q ≤ 64 → m r ≡ m q → r ≡ q
unfolding unshared_in
unshared_in_law m rs others e r q i h j l p =
    ⊎_elim (λ n. absurd (clash (eq-eqb (m r) (m q) p) (neg_true n))) (eqb-true r q)
    (or_true (every_in_law (other r) others (every_in_law (λ a. every (other a) others) rs e r i h) q j l))
  where
    other : ℕ → ℕ → Bool
    other a b = neg (eqb (m a) (m b)) or eqb a b

-- ---- number 7 for every program
module _ (S : Signature) (ok : classes_ok S ≡ true) where
  born_only : subset (born S) (outputs S ∖ inputs S) ≡ true
  unfolding classes_ok
  born_only = (and_true ok).0

  dead_only : subset (dead S) (inputs S ∖ outputs S) ≡ true
  unfolding classes_ok
  dead_only = (and_true ok).1

  pub born_outputs : subset (born S) (outputs S) ≡ true
  born_outputs = subset_trans (born S) (outputs S ∖ inputs S) (outputs S) born_only (difference_left (outputs S) (inputs S))

  pub born_inputs : apart (born S) (inputs S) ≡ true
  born_inputs =
      apart_mono (born S) (inputs S) (outputs S ∖ inputs S) (inputs S) born_only (subset_refl (inputs S))
      (difference_apart (outputs S) (inputs S))

  pub dead_inputs : subset (dead S) (inputs S) ≡ true
  dead_inputs = subset_trans (dead S) (inputs S ∖ outputs S) (inputs S) dead_only (difference_left (inputs S) (outputs S))

  pub dead_outputs : apart (dead S) (outputs S) ≡ true
  dead_outputs =
      apart_mono (dead S) (outputs S) (inputs S ∖ outputs S) (outputs S) dead_only (subset_refl (outputs S))
      (difference_apart (inputs S) (outputs S))

  pub born_shared_law : subset (born S) (inputs S ∪ outputs S) ≡ true
  born_shared_law = subset_trans (born S) (outputs S) (inputs S ∪ outputs S) born_outputs (right_union (inputs S) (outputs S))

  pub dead_shared_law : subset (dead S) (inputs S ∪ outputs S) ≡ true
  dead_shared_law = subset_trans (dead S) (inputs S) (inputs S ∪ outputs S) dead_inputs (left_union (inputs S) (outputs S))

  pub start_shared : subset (dead S ∪ kept S) (inputs S ∪ outputs S) ≡ true
  start_shared = union_least (dead S) (kept S) (inputs S ∪ outputs S) dead_shared_law (kept_shared_law S)

  -- the input regions are dead or kept, the output regions born or kept
  pub inputs_sorted : (T : List (List Functor)) → Declared T S → subset (inputs S) (dead S ∪ kept S) ≡ true
  inputs_sorted T D = subset_mk (inputs S) (dead S ∪ kept S) (λ r m. ⊎_elim (other r m) (union_left (dead S) (kept S) r) (classed r m))
    where
      classed : (r : ℕ) → member (inputs S) r ≡ true → (member (kept S ∪ born S) r ≡ true) ⊎ (member (dead S) r ≡ true)
      classed r m = union_in (kept S ∪ born S) (dead S) r (shared_classed T S D r (union_left (inputs S) (outputs S) r m))

      other : (r : ℕ) → member (inputs S) r ≡ true → member (kept S ∪ born S) r ≡ true → member (dead S ∪ kept S) r ≡ true
      other r m i =
          ⊎_elim (union_right (dead S) (kept S) r) (λ b. absurd (clash m (apart_in (born S) (inputs S) born_inputs r b))) (union_in (kept S) (born S) r i)

  pub outputs_sorted : (T : List (List Functor)) → Declared T S → subset (outputs S) (born S ∪ kept S) ≡ true
  outputs_sorted T D =
      subset_mk (outputs S) (born S ∪ kept S)
      (λ r m. ⊎_elim (other r) (λ d. absurd (clash m (apart_in (dead S) (outputs S) dead_outputs r d))) (classed r m))
    where
      classed : (r : ℕ) → member (outputs S) r ≡ true → (member (kept S ∪ born S) r ≡ true) ⊎ (member (dead S) r ≡ true)
      classed r m = union_in (kept S ∪ born S) (dead S) r (shared_classed T S D r (union_right (inputs S) (outputs S) r m))

      other : (r : ℕ) → member (kept S ∪ born S) r ≡ true → member (born S ∪ kept S) r ≡ true
      other r i = ⊎_elim (union_right (born S) (kept S) r) (union_left (born S) (kept S) r) (union_in (kept S) (born S) r i)
