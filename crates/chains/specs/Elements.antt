-- What stands in a chain is one element for each of its records: the element of record j, in words of j. Record 0, "none", has the element that
-- the definitions take where there is none. A count of a chain is the count of its records: `variables_count` and its like, beside `chain_length`.
use Rattle.std.specs.Prelude.{ℕ, ◌+◌, ◌≡◌, List, map, length}
use Rattle.std.proofs.Math.Path.{refl}
use Rattle.std.proofs.Common.{sym, ap, ◌∙◌}
use Rattle.std.proofs.lemmas.List.{length-map}
use Rattle.language.specs.Format.{header_procedures, type_functors, functor_arity, procedure_variables, procedure_regions, procedure_goals, variable_mode, variable_type, variable_region, region_type, region_class, region_edges, argument_variable, functor_types}
use Rattle.language.specs.File.{types, functors, procedures, variables, regions, arguments, word}
use Rattle.language.specs.Answers.{program}
use Rattle.language.specs.Program.{four, Functor, Variable, Region, Procedure}
use Rattle.layout.specs.Chains.{real}
use Rattle.layout.specs.Steps.{procedure_of}
use Rattle.chains.specs.Formed.{Formed, Stands, procedures_stand, program_procedures, types_at, functors_at, procedures_at, variables_at, regions_at, edges_at, goals_at, arguments_at, types_none, functors_none, procedures_none, variables_none, regions_none, arguments_none}
use Rattle.chains.specs.Declared.{type_at, functor_at_law, procedure_at_law, variable_at_law, region_at_law}
use Rattle.chains.specs.Parts.{argument_at}
use Rattle.chains.specs.Is.{type_is, functor_is, procedure_is, variable_is, region_is, argument_is}
use Rattle.chains.specs.Fields.{field_of, field_some}
use Rattle.chains.specs.Records.{chain_records, view_map}

-- ---- the element of record j
module _ (f : List ℕ) (j : ℕ) where
  abbrev pub functors_of_type : List Functor
  functors_of_type = functors_at f (field_of f j type_functors)

  abbrev pub functor_from : Functor
  functor_from = record {
    arity = field_of f j functor_arity;
    argument_types = four (field_of f j functor_types) (field_of f j (functor_types + 1)) (field_of f j (functor_types + 2)) (field_of f j (functor_types + 3));
  }

  abbrev pub variable_from : Variable
  variable_from = record { mode = field_of f j variable_mode; type = field_of f j variable_type; region = field_of f j variable_region }

  abbrev pub region_from : Region
  region_from = record { type = field_of f j region_type; class = field_of f j region_class; edges = edges_at f (field_of f j region_edges) }

  abbrev pub procedure_from : Procedure
  procedure_from = procedure_of (variables_at f (field_of f j procedure_variables)) (regions_at f (field_of f j procedure_regions)) (goals_at f (field_of f j procedure_goals))

-- ---- the chains
module _ {f : List ℕ} (F : Formed f) (i : ℕ) where
  pub types_map : Stands f types i → types_at f i ≡ map (functors_of_type f) (chain_records f i)
  unfolding real
  types_map =
      view_map F types refl (types_at f) (functors_of_type f) (types_none f refl)
      (λ j s z. rw (← field_some f j type_functors z) (type_at F refl (type_is s z)).view) i

  pub functors_map : Stands f functors i → functors_at f i ≡ map (functor_from f) (chain_records f i)
  unfolding real
  functors_map =
      view_map F functors refl (functors_at f) (functor_from f) (functors_none f refl)
      (λ j s z. rw (
        ← field_some f j functor_arity z,
        ← field_some f j functor_types z,
        ← field_some f j (functor_types + 1) z,
        ← field_some f j (functor_types + 2) z,
        ← field_some f j (functor_types + 3) z,
      )
      (functor_at_law F refl (functor_is s z)).view) i

  pub variables_map : Stands f variables i → variables_at f i ≡ map (variable_from f) (chain_records f i)
  unfolding real
  variables_map =
      view_map F variables refl (variables_at f) (variable_from f) (variables_none f refl)
      (λ j s z. rw (← field_some f j variable_mode z, ← field_some f j variable_type z, ← field_some f j variable_region z)
      (variable_at_law F refl (variable_is s z)).view) i

  pub regions_map : Stands f regions i → regions_at f i ≡ map (region_from f) (chain_records f i)
  unfolding real
  regions_map =
      view_map F regions refl (regions_at f) (region_from f) (regions_none f refl)
      (λ j s z. rw (← field_some f j region_type z, ← field_some f j region_class z, ← field_some f j region_edges z)
      (region_at_law F refl (region_is s z)).view) i

  pub procedures_map : Stands f procedures i → procedures_at f i ≡ map (procedure_from f) (chain_records f i)
  unfolding real
  procedures_map =
      view_map F procedures refl (procedures_at f) (procedure_from f) (procedures_none f refl)
      (λ j s z. rw (← field_some f j procedure_variables z, ← field_some f j procedure_regions z, ← field_some f j procedure_goals z)
      (procedure_at_law F refl (procedure_is s z)).view) i

  pub arguments_map : Stands f arguments i → arguments_at f i ≡ map (λ j. field_of f j argument_variable) (chain_records f i)
  unfolding real
  arguments_map =
      view_map F arguments refl (arguments_at f) (λ j. field_of f j argument_variable) (arguments_none f refl)
      (λ j s z. rw (← field_some f j argument_variable z) (argument_at F refl (argument_is s z)).view) i

  -- ---- as many as records
  pub types_count : Stands f types i → length (types_at f i) ≡ length (chain_records f i)
  types_count s = ap length (types_map s) ∙ length-map (chain_records f i) (functors_of_type f)

  pub functors_count : Stands f functors i → length (functors_at f i) ≡ length (chain_records f i)
  functors_count s = ap length (functors_map s) ∙ length-map (chain_records f i) (functor_from f)

  pub variables_count : Stands f variables i → length (variables_at f i) ≡ length (chain_records f i)
  variables_count s = ap length (variables_map s) ∙ length-map (chain_records f i) (variable_from f)

  pub regions_count : Stands f regions i → length (regions_at f i) ≡ length (chain_records f i)
  regions_count s = ap length (regions_map s) ∙ length-map (chain_records f i) (region_from f)

  pub procedures_count : Stands f procedures i → length (procedures_at f i) ≡ length (chain_records f i)
  procedures_count s = ap length (procedures_map s) ∙ length-map (chain_records f i) (procedure_from f)

-- how many procedures the file has, as the code counts them
pub procedure_count : {f : List ℕ} → Formed f → {i n : ℕ} → i ≡ word f 0 header_procedures → n ≡ length (chain_records f i) → n ≡ length (program f).procedures
procedure_count {f} F {i} e h =
    h ∙ ap (λ j. length (chain_records f j)) e
    ∙ sym (ap length (program_procedures F) ∙ procedures_count F (word f 0 header_procedures) (procedures_stand F))
