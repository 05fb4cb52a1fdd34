-- What a procedure declares: one variable, one region, then all of it.
use Prim.Native.Nat.{ℕ, ◌≤◌, ◌<◌}
use native.Mathlib.Omega.{arith}
use borrow.Author.Tests.{le-leb, lt-leb}
use mathlib.Core.Path.{◌≡◌, refl, ap, sym, ◌∙◌}
use mathlib.Core.Bool.{Bool, true, false}
use mathlib.Core.List.{List, ◌∷◌}
use lib.Dec.{eqb, leb}
use lib.ListN.{length}
use Rattle.sets.specs.Tests.{◌&◌, neg, and_true}
use Rattle.laws.specs.Tests.{and_assoc, and_stop, and_on, refuse, pass}
use Rattle.language.specs.Format.{next_word, procedure_variables, procedure_regions, variable_mode, variable_type, variable_region, region_type, region_class, region_edges, dead_class, max_variables, max_regions}
use Rattle.language.specs.Lists.{all, choose, nth1}
use Rattle.language.specs.File.{procedures, variables, regions, word}
use Rattle.language.specs.Program.{Functor, Signature, functors_of, out_mode}
use Rattle.language.specs.Answers.{program}
use Rattle.language.specs.Typing.{is_type, regioned, is_region_of, places_from, edges_ok, variable_ok, region_ok}
use Rattle.chains.specs.Formed.{Formed, Stands, functors_at, edges_at, variables_at, regions_at}
use Rattle.chains.specs.Records.{chain_records}
use Rattle.chains.specs.Elements.{variables_count, regions_count}
use Rattle.chains.specs.Is.{procedure_is, variable_is, region_is}
use Rattle.chains.specs.Declared.{procedure_at_law, variable_at_law, region_at_law}
use Rattle.declarations.specs.DeclaredPlaces.{variable_in, region_in, regioned_in, functor_in}
use Rattle.declarations.proofs.DeclaresLaws.{regioned_type, type_some, type_none, regioned_none, regioned_some, regioned_functors}
use Rattle.declarations.specs.Declares.{Declares}
use Rattle.declarations.specs.Own.{declared, signature_from, signature_at, few_declared}
use Rattle.declarations.specs.Signatures.{each_declared, region_at_record, variable_at_record}

-- ---- what the code tests, with what the procedure's table declares
module _ {f : List ℕ} {i : ℕ} (F : Formed f) where
  pub variables_step : Stands f variables i → (i ≡ 0 → ⊥) → variables_at f i ≡ variable_at_record f i ∷ variables_at f (word f i next_word)
  unfolding variable_at_record
  variables_step s z = (variable_at_law F refl (variable_is s z)).view

  pub regions_step : Stands f regions i → (i ≡ 0 → ⊥) → regions_at f i ≡ region_at_record f i ∷ regions_at f (word f i next_word)
  unfolding region_at_record
  regions_step s z = (region_at_law F refl (region_is s z)).view

and_same : {a b : Bool} (c : Bool) → a ≡ b → (a & c) ≡ (b & c)
and_same c e = rw e

module _ {f t : List ℕ} (D : Declares f t) (S : Signature) (i : ℕ) where
  -- ---- a variable
  module _ {m : ℕ} (em : m ≡ word f i variable_mode) where
    pub variable_mode_law : out_mode < m → false ≡ variable_ok (program f).types S (variable_at_record f i)
    unfolding variable_ok variable_at_record
    variable_mode_law h = and_stop _ (lt-leb (word f i variable_mode) out_mode (omega arith))

    module _ (h : m ≤ out_mode) {ty r : ℕ} (et : ty ≡ word f i variable_type) (er : r ≡ word f i variable_region) where
      pub variable_number : ty ≡ 0 → eqb r 0 ≡ variable_ok (program f).types S (variable_at_record f i)
      unfolding variable_ok variable_at_record is_type regioned functors_of nth1 all neg choose
      variable_number z =
          and_on (le-leb (word f i variable_mode) out_mode (omega arith)) (and_on (le-leb (word f i variable_type) (length (program f).types) (omega arith))
          (rw (sym et ∙ z) (ap (λ k. eqb k 0) er)))

      module _ {s : ℕ} (es : s ≡ regioned_in t ty) where
        pub variable_regioned : (s ≡ 0 → ⊥) → {b : Bool} → b ≡ is_region_of S ty r → b ≡ variable_ok (program f).types S (variable_at_record f i)
        unfolding variable_ok variable_at_record choose
        variable_regioned n eb =
            let k = regioned_some D ty es n in
            and_on (le-leb (word f i variable_mode) out_mode (omega arith)) (rw (sym et, sym er) (and_on (and_true (regioned_type (program f).types ty ∙ k)).0 (rw k eb)))

        module _ (n : s ≡ 0) (z : ty ≡ 0 → ⊥) {g : ℕ} (eg : g ≡ functor_in t ty 0) where
          pub variable_type_law : g ≡ 0 → false ≡ variable_ok (program f).types S (variable_at_record f i)
          unfolding variable_ok variable_at_record
          variable_type_law e = and_on (le-leb (word f i variable_mode) out_mode (omega arith)) (and_stop _ (ap (is_type (program f).types) (sym et) ∙ type_none D ty eg z e))

          pub variable_bare : (g ≡ 0 → ⊥) → eqb r 0 ≡ variable_ok (program f).types S (variable_at_record f i)
          unfolding variable_ok variable_at_record choose
          variable_bare m =
              and_on (le-leb (word f i variable_mode) out_mode (omega arith)) (rw (sym et, sym er) (and_on (type_some D ty eg m) (rw (regioned_none D ty es n))))

  -- ---- a region
  module _ {ty g : ℕ} (et : ty ≡ word f i region_type) (eg : g ≡ regioned_in t ty) where
    region_as : region_ok (program f).types S (region_at_record f i)
        ≡ (regioned (program f).types ty & leb (word f i region_class) dead_class
        & edges_ok (program f).types S (places_from (program f).types 0 (functors_of (program f).types ty)) (edges_at f (word f i region_edges)))
    unfolding region_ok region_at_record
    region_as = rw et (sym (and_assoc _ _ _) ∙ and_same _ (regioned_type (program f).types (word f i region_type)))

    pub region_type_law : g ≡ 0 → false ≡ region_ok (program f).types S (region_at_record f i)
    region_type_law z = and_stop _ (regioned_none D ty eg z) ∙ sym region_as

    module _ (z : g ≡ 0 → ⊥) {c : ℕ} (ec : c ≡ word f i region_class) where
      pub region_class_law : dead_class < c → false ≡ region_ok (program f).types S (region_at_record f i)
      region_class_law h = and_on (regioned_some D ty eg z) (and_stop _ (lt-leb (word f i region_class) dead_class (omega arith))) ∙ sym region_as

      pub region_edges_law : c ≤ dead_class → {e : ℕ} {b : Bool} → e ≡ word f i region_edges → b ≡ edges_ok (program f).types S (places_from (program f).types 0 (functors_at f g)) (edges_at f e) → b ≡ region_ok (program f).types S (region_at_record f i)
      region_edges_law h {e} {b} ee k =
          and_on (regioned_some D ty eg z) (and_on (le-leb (word f i region_class) dead_class (omega arith))
          (k ∙ ap (λ fs. edges_ok (program f).types S (places_from (program f).types 0 fs) (edges_at f e)) (regioned_functors D ty eg z) ∙ ap (λ j. edges_ok (program f).types S (places_from (program f).types 0 (functors_of (program f).types ty)) (edges_at f j)) ee)) ∙ sym region_as

-- ---- all of it
module _ (f : List ℕ) (i : ℕ) (F : Formed f) (s : Stands f procedures i) (z : i ≡ 0 → ⊥) {v l : ℕ} (ev : v ≡ word f i procedure_variables) (el : l ≡ length (chain_records f v)) where
  variables_few : leb l max_variables ≡ leb (length (signature_at f i).variables) max_variables
  unfolding signature_at signature_from
  variables_few = ap (λ n. leb n max_variables) (el ∙ ap (λ j. length (chain_records f j)) ev ∙ sym (variables_count F _ (procedure_at_law F refl (procedure_is s z)).to_variables.stands))

  pub many_variables : max_variables < l → false ≡ few_declared (signature_at f i)
  unfolding few_declared
  many_variables h = refuse _ variables_few (lt-leb l max_variables h)

  pub counts_all : l ≤ max_variables → {r m : ℕ} → r ≡ word f i procedure_regions → m ≡ length (chain_records f r) → leb m max_regions ≡ few_declared (signature_at f i)
  unfolding few_declared signature_at signature_from
  counts_all h er em =
      pass variables_few (le-leb l max_variables h)
      (ap (λ n. leb n max_regions) (em ∙ ap (λ j. length (chain_records f j)) er ∙ sym (regions_count F _ (procedure_at_law F refl (procedure_is s z)).to_regions.stands)))

-- from the first variable and the first region of the table on, all that it declares
module _ (f own : List ℕ) (T : List (List Functor)) {i : ℕ} {b : Bool} where
  pub variables_tested : i ≡ variable_in own 1 → b ≡ all (variable_ok T (declared f own)) (variables_at f i) → b ≡ all (variable_ok T (declared f own)) (declared f own).variables
  unfolding declared signature_from
  variables_tested ei e = rw ei at e

  pub regions_tested : i ≡ region_in own 1 → b ≡ all (region_ok T (declared f own)) (regions_at f i) → b ≡ all (region_ok T (declared f own)) (declared f own).regions
  unfolding declared signature_from
  regions_tested ei e = rw ei at e

module _ (T : List (List Functor)) (S : Signature) {q : Bool} (e : q ≡ all (variable_ok T S) S.variables) where
  pub wrong_variable : q ≡ false → false ≡ each_declared T S
  unfolding each_declared
  wrong_variable p = refuse _ e p

  pub each_all : q ≡ true → {b : Bool} → b ≡ all (region_ok T S) S.regions → b ≡ each_declared T S
  unfolding each_declared
  each_all p h = pass e p h
