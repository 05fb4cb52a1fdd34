-- What is wanted: it is of regions that the procedure declares; what is wanted at its start is held there, and what is wanted at its end is
-- what must be held there.
use Rattle.std.specs.Prelude.{ℕ, ◌≤◌, ◌≡◌, refl, true, List}
use Rattle.std.proofs.Common.{⊎_elim}
use Rattle.sets.specs.Sets.{member, empty_set, ◌∪◌, ◌∩◌, ◌∖◌, subset, Small, union_right, union_in, subset_in, subset_mk}
use Rattle.sets.specs.SetLaws.{subset_refl, subset_trans, subset_antisym, left_union, right_union, union_least, union_mono, difference_left, intersection_left, small_mk}
use Rattle.sets.specs.MemberLaws.{union_over_mk, union_over_least, union_over_mono}
use Rattle.sets.specs.declared.Set.{Set}
use Rattle.language.specs.Program.{Functor, Signature}
use Rattle.language.specs.Typing.{is_region}
use Rattle.language.specs.Values.{ins_of, outs_of}
use Rattle.language.specs.Regions.{reach, reach_all}
use Rattle.language.specs.Lifetimes.{inputs, outputs, born, dead, kept, start_held, wanted, classes_ok}
use Rattle.laws.specs.MoreSets.{empty_in}
use Rattle.region_graph.specs.Laws.{Declared}
use Rattle.region_graph.specs.Shared.{region_top, reach_all_ranged, shared_ranged}
use Rattle.region_graph.specs.Classes.{kept_ranged, born_outputs, start_shared, inputs_sorted, outputs_sorted}

-- ---- wanted: the least set with the kept regions and the reach of each live variable
module _ (S : Signature) where
  pub kept_wanted : (l : Set) → subset (kept S) (wanted S l) ≡ true
  unfolding wanted
  kept_wanted l = left_union (kept S) (reach_all S l)

  pub reach_wanted : (l : Set) (x : ℕ) → member l x ≡ true → x ≤ 64 → subset (reach S x) (wanted S l) ≡ true
  unfolding wanted reach_all
  reach_wanted l x m h =
      subset_mk (reach S x) (wanted S l) (λ r i. union_right (kept S) _ r (union_over_mk (reach S) l x r m h i))

  pub wanted_least : (l h : Set) → subset (kept S) h ≡ true → ((x : ℕ) → member l x ≡ true → x ≤ 64 → subset (reach S x) h ≡ true)
      → subset (wanted S l) h ≡ true
  unfolding wanted reach_all
  wanted_least l h k f = union_least (kept S) _ h k (union_over_least (reach S) l h f)

  pub wanted_mono : (a b : Set) → subset a b ≡ true → subset (wanted S a) (wanted S b) ≡ true
  unfolding wanted reach_all
  wanted_mono a b h = union_mono _ _ _ _ (subset_refl (kept S)) (union_over_mono (reach S) (reach S) a b (λ x. subset_refl (reach S x)) h)

-- ---- sets of regions that a procedure declares
pub record Within (S : Signature) (s : Set) : Type 0 where
  pub inside : (r : ℕ) → member s r ≡ true → is_region S r ≡ true

pub within_subset : {S : Signature} (a b : Set) → subset a b ≡ true → Within S b → Within S a
within_subset a b h W = record { inside = λ r m. W.inside r (subset_in a b h r m) }

pub within_empty : {S : Signature} → Within S empty_set
within_empty = record { inside = λ r m. absurd (empty_in empty_set refl r m) }

pub within_union : {S : Signature} {a b : Set} → Within S a → Within S b → Within S (a ∪ b)
within_union {S} {a} {b} U W = record { inside = λ r m. ⊎_elim (U.inside r) (W.inside r) (union_in a b r m) }

pub within_difference : {S : Signature} {a : Set} (b : Set) → Within S a → Within S (a ∖ b)
within_difference {S} {a} b W = within_subset (a ∖ b) a (difference_left a b) W

pub within_intersection : {S : Signature} {a : Set} (b : Set) → Within S a → Within S (a ∩ b)
within_intersection {S} {a} b W = within_subset (a ∩ b) a (intersection_left a b) W

module _ (T : List (List Functor)) (S : Signature) (D : Declared T S) where
  pub within_small : (s : Set) → Within S s → Small s
  within_small s W = small_mk s (λ r m. (region_top T S D r (W.inside r m)).1)

  kept_within : Within S (kept S)
  kept_within = record { inside = kept_ranged T S D }

  pub wanted_within : (l : Set) → Within S (wanted S l)
  unfolding wanted
  wanted_within l = within_union kept_within (record { inside = reach_all_ranged T S D l })

  module _ (C : classes_ok S ≡ true) where
    pub start_within : Within S (start_held S)
    unfolding start_held
    start_within = within_subset (dead S ∪ kept S) (inputs S ∪ outputs S) (start_shared S C) (record { inside = shared_ranged T S D })

    -- what is wanted where only in variables are live is held at the start
    pub start_wanted : (l : Set) → subset l (ins_of S) ≡ true → subset (wanted S l) (start_held S) ≡ true
    unfolding start_held inputs wanted reach_all
    start_wanted l h =
        union_least (kept S) _ (dead S ∪ kept S) (right_union (dead S) (kept S))
        (subset_trans _ _ (dead S ∪ kept S) (union_over_mono (reach S) (reach S) l (ins_of S) (λ x. subset_refl (reach S x)) h)
        (inputs_sorted S C T D))

    -- "At the end: born and kept regions held, no other": that is what is wanted there
    pub end_wanted : wanted S (outs_of S) ≡ born S ∪ kept S
    unfolding wanted outputs
    end_wanted =
        subset_antisym (wanted S (outs_of S)) (born S ∪ kept S)
        (union_least (kept S) (outputs S) _ (right_union (born S) (kept S)) (outputs_sorted S C T D))
        (union_least (born S) (kept S) _ (subset_trans (born S) (outputs S) _ (born_outputs S C) (right_union (kept S) (outputs S)))
        (kept_wanted S (outs_of S)))
