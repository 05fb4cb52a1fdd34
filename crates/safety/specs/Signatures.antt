-- What a procedure's declarations say of its regions, by the laws of reach and number 7: which regions its in and out variables reach, and
-- that born, dead and kept regions are three different sorts of input and output regions.
use Rattle.std.specs.Prelude.{◌≡◌, true, List, ◌⊎◌, ℕ, ◌≤◌}
use Rattle.std.proofs.Common.{⊎_elim}
use Rattle.sets.specs.Tests.{clash}
use Rattle.sets.specs.Sets.{member, empty_set, ◌∪◌, union_left, union_right, union_in, subset_in}
use Rattle.sets.specs.SetLaws.{apart_in}
use Rattle.sets.specs.MemberLaws.{union_over_in}
use Rattle.sets.specs.declared.Set.{Set}
use Rattle.language.specs.Program.{Functor, Signature}
use Rattle.language.specs.Typing.{is_region, signature_ok}
use Rattle.language.specs.Values.{ins_of, outs_of}
use Rattle.language.specs.Regions.{reach, reach_all}
use Rattle.language.specs.Lifetimes.{inputs, outputs, born, dead, kept, start_held, classes_ok}
use Rattle.laws.specs.MoreSets.{empty_in}
use Rattle.region_graph.specs.Laws.{shared, Declared}
use Rattle.region_graph.specs.Procedure.{declared}
use Rattle.region_graph.specs.Parameters.{ins_in, outs_in}
use Rattle.region_graph.specs.Shared.{region_top, shared_ranged, input_reach, output_reach}
use Rattle.region_graph.specs.Classes
use Rattle.region_graph.specs.Classes.{dead_kept_law, born_kept, inputs_sorted, outputs_sorted}

-- a procedure that passes number 3 and the declared part of number 7
pub record Fit (T : List (List Functor)) (S : Signature) : Type 0 where
  pub typed : signature_ok T S ≡ true
  pub classes : classes_ok S ≡ true

-- no region, or one that is declared
abbrev pub KnownRegion : Signature → ℕ → Type 0
KnownRegion S r = (r ≡ 0) ⊎ (is_region S r ≡ true)

-- ---- no dead or born region is kept
module _ (S : Signature) where
  pub dead_unkept : (r : ℕ) → member (dead S) r ≡ true → member (kept S) r ≡ true → ⊥
  dead_unkept r d k = clash k (apart_in (dead S) (kept S) (dead_kept_law S) r d)

  pub born_unkept : (r : ℕ) → member (born S) r ≡ true → member (kept S) r ≡ true → ⊥
  born_unkept r b k = clash k (apart_in (born S) (kept S) (born_kept S) r b)

-- ---- with number 7
module _ {T : List (List Functor)} {S : Signature} (F : Fit T S) where
  pub laws_of : Declared T S
  laws_of = declared T S F.typed

  pub born_shared_law : (r : ℕ) → member (born S) r ≡ true → shared S r
  born_shared_law r e = subset_in (born S) (inputs S ∪ outputs S) (Classes.born_shared_law S F.classes) r e

  pub dead_shared_law : (r : ℕ) → member (dead S) r ≡ true → shared S r
  dead_shared_law r e = subset_in (dead S) (inputs S ∪ outputs S) (Classes.dead_shared_law S F.classes) r e

  pub start_in_law : (r : ℕ) → member (start_held S) r ≡ true → (member (dead S) r ≡ true) ⊎ (member (kept S) r ≡ true)
  unfolding start_held
  start_in_law r e = union_in (dead S) (kept S) r e

  pub start_dead : (r : ℕ) → member (dead S) r ≡ true → member (start_held S) r ≡ true
  unfolding start_held
  start_dead r e = union_left (dead S) (kept S) r e

  pub start_kept : (r : ℕ) → member (kept S) r ≡ true → member (start_held S) r ≡ true
  unfolding start_held
  start_kept r e = union_right (dead S) (kept S) r e

  pub start_shared : (r : ℕ) → member (start_held S) r ≡ true → shared S r
  unfolding start_held
  start_shared r e = subset_in (dead S ∪ kept S) (inputs S ∪ outputs S) (Classes.start_shared S F.classes) r e

  pub shared_top : (r : ℕ) → shared S r → r ≤ 64
  shared_top r e = (region_top T S laws_of r (shared_ranged T S laws_of r e)).1

  -- the in variables reach dead and kept regions only, the out variables born and kept ones only
  pub ins_reach : (x u : ℕ) → member (ins_of S) x ≡ true → member (reach S x) u ≡ true → member (start_held S) u ≡ true
  unfolding start_held
  ins_reach x u i e =
      subset_in (inputs S) (dead S ∪ kept S) (inputs_sorted S F.classes T laws_of) u
      (subset_in (reach S x) (inputs S) (input_reach T S laws_of x (ins_in S x i)) u e)

  pub outs_reach : (x u : ℕ) → member (outs_of S) x ≡ true → member (reach S x) u ≡ true → member (born S ∪ kept S) u ≡ true
  outs_reach x u i e =
      subset_in (outputs S) (born S ∪ kept S) (outputs_sorted S F.classes T laws_of) u
      (subset_in (reach S x) (outputs S) (output_reach T S laws_of x (outs_in S x i)) u e)

-- a procedure with no in and out variables has no input and output regions
pub none_shared : (S : Signature) → ins_of S ≡ empty_set → outs_of S ≡ empty_set → (r : ℕ) → shared S r → ⊥
unfolding inputs outputs reach_all
none_shared S p q r e = ⊎_elim (none (ins_of S) p) (none (outs_of S) q) (union_in (inputs S) (outputs S) r e)
  where
    none : (xs : Set) → xs ≡ empty_set → member (reach_all S xs) r ≡ true → ⊥
    none xs z a = let w = union_over_in (reach S) xs r a in empty_in xs z w.0 w.1
