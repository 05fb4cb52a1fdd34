-- What the file's table has: functors by type and number, the first of each type with regions, procedures by number, links between variables by their
-- records.
use Rattle.std.specs.Prelude.{ℕ, ◌≡◌, true, List, ltb, length, get_or}
use Rattle.std.proofs.Common.{arith, lt-ltb, le-ltb, ◌∙◌}
use Rattle.std.proofs.Math.Decide.{dec_lt}
use Rattle.std.proofs.Math.Path.{refl, ap, sym}
use Rattle.language.specs.Format.{next_word, header_types, header_procedures, type_functors, procedure_variables}
use Rattle.language.specs.Lists.{nth, nth1}
use Rattle.language.specs.File.{Chain, types, functors, procedures, variables, word}
use Rattle.language.specs.Program.{functors_of, functor_at, signature_of}
use Rattle.language.specs.Typing.{types_ok}
use Rattle.language.specs.Answers.{program}
use Rattle.chains.specs.Layout.{real}
use Rattle.chains.specs.Fields.{field_of, field_some}
use Rattle.chains.specs.Formed.{Formed, Stands, types_stand, procedures_stand, program_types, program_procedures, functors_at, variables_at}
use Rattle.chains.specs.Records.{chain_records, records_some, records_none, records_step}
use Rattle.chains.specs.Elements.{functors_count, procedures_count}
use Rattle.chains.specs.Reached.{stands_nth, stands_nth1, type_functors_law, place_below, place_past}
use Rattle.chains.specs.Lookups.{functors_of_law, functor_of, procedure_of_law}
use Rattle.declarations.specs.Functors.{functor_at_record, functor_same}
use Rattle.declarations.specs.Regioned.{regioned_start}
use Rattle.declarations.specs.Parameters.{ParameterFrom}
use Rattle.declarations.specs.DeclaredPlaces.{regioned_in, functor_in, procedure_in}

-- the first functor of type ty
unfoldable pub type_start : List ℕ → ℕ → ℕ
type_start f ty = field_of f (nth1 0 (chain_records f (word f 0 header_types)) ty) type_functors

pub record Declares (f t : List ℕ) : Type 0 where
  pub formed : Formed f
  pub types_ok_law : types_ok (program f).types ≡ true
  pub functors : (ty n : ℕ) → functor_in t ty n ≡ nth 0 (chain_records f (type_start f ty)) n
  pub starts : (ty : ℕ) → regioned_in t ty ≡ regioned_start f (type_start f ty)
  pub procedures : (q : ℕ) → procedure_in t q ≡ nth 0 (chain_records f (word f 0 header_procedures)) q
  pub parameters : (v : ℕ) → Stands f variables v → ParameterFrom f v (get_or t v 0)

-- ---- the types of the file
module _ {f : List ℕ} (F : Formed f) (ty : ℕ) where
  pub start_stands : Stands f functors (type_start f ty)
  unfolding type_start real
  start_stands = type_functors_law F _ (stands_nth1 F types refl _ (types_stand F) ty)

  pub functors_are : functors_at f (type_start f ty) ≡ functors_of (program f).types ty
  unfolding type_start
  functors_are = sym (functors_of_law F (types_stand F) (program_types F) ty refl)

  pub functors_length : length (chain_records f (type_start f ty)) ≡ length (functors_of (program f).types ty)
  functors_length = sym (functors_count F (type_start f ty) start_stands) ∙ ap length functors_are

-- there is an n-th record where the chain is that long
record_listed : (f : List ℕ) (i n : ℕ) → ltb 0 (nth 0 (chain_records f i) n) ≡ ltb n (length (chain_records f i))
record_listed f i n =
    elim (dec_lt 0 (nth 0 (chain_records f i) n)) [
      | yes l ↦ lt-ltb 0 (nth 0 (chain_records f i) n) l ∙ sym (lt-ltb n (length (chain_records f i)) (place_below (chain_records f i) n (λ z. omega arith)))
      | no l ↦ le-ltb 0 (nth 0 (chain_records f i) n) (omega arith) ∙ sym (le-ltb n (length (chain_records f i)) (place_past (chain_records f i) (records_some f i) n (omega arith)))
    ]

-- the first record of a chain is where it starts
pub first_record : {f : List ℕ} → Formed f → {c : Chain} {i : ℕ} → Stands f c i → nth 0 (chain_records f i) 0 ≡ i
unfolding nth
first_record {f} F {i = i} s =
    elim (dec_lt 0 i) [
      | yes l ↦ ap (λ xs. nth 0 xs 0) (records_step {w = word f i next_word} F (λ z. omega arith) s.below refl)
      | no l ↦ let z : i ≡ 0 = omega arith in ap (λ xs. nth 0 xs 0) (records_none f z) ∙ sym z
    ]

module _ {f t : List ℕ} (D : Declares f t) where
  pub functor_stands : (ty n : ℕ) → Stands f functors (functor_in t ty n)
  unfolding real
  functor_stands ty n = rw (D.functors ty n) (stands_nth D.formed functors refl (type_start f ty) (start_stands D.formed ty) n)

  pub functor_listed : (ty n : ℕ) → ltb 0 (functor_in t ty n) ≡ ltb n (length (functors_of (program f).types ty))
  functor_listed ty n = ap (ltb 0) (D.functors ty n) ∙ record_listed f (type_start f ty) n ∙ ap (ltb n) (functors_length D.formed ty)

  module _ (ty : ℕ) {g : ℕ} (e : g ≡ functor_in t ty 0) where
    -- the functors from the first of a type on
    pub functors_here : functors_at f g ≡ functors_of (program f).types ty
    functors_here = ap (functors_at f) (e ∙ D.functors ty 0 ∙ first_record D.formed (start_stands D.formed ty)) ∙ functors_are D.formed ty

  -- ---- types with regions
  pub functor_here : (ty n : ℕ) {g : ℕ} → g ≡ functor_in t ty n → (g ≡ 0 → ⊥) → functor_at (functors_of (program f).types ty) n ≡ functor_at_record f g
  functor_here ty n {g} e z = functor_of D.formed (start_stands D.formed ty) (sym (functors_are D.formed ty)) n (e ∙ D.functors ty n) ∙ functor_same f g z

  pub procedure_stands : (q : ℕ) → Stands f procedures (procedure_in t q)
  unfolding real
  procedure_stands q = rw (D.procedures q) (stands_nth D.formed procedures refl _ (procedures_stand D.formed) q)

  pub procedure_listed : (q : ℕ) → ltb 0 (procedure_in t q) ≡ ltb q (length (program f).procedures)
  procedure_listed q =
      ap (ltb 0) (D.procedures q) ∙ record_listed f (word f 0 header_procedures) q
      ∙ ap (ltb q) (sym (ap length (program_procedures D.formed) ∙ procedures_count D.formed _ (procedures_stand D.formed)))

  pub callee_variables : (q : ℕ) {j : ℕ} → j ≡ procedure_in t q → (j ≡ 0 → ⊥) → (signature_of (program f) q).variables ≡ variables_at f (word f j procedure_variables)
  unfolding signature_of
  callee_variables q {j} e z =
      ap (λ p. p.signature.variables) (procedure_of_law D.formed (program f) (procedures_stand D.formed) (program_procedures D.formed) q (e ∙ D.procedures q))
      ∙ ap (variables_at f) (sym (field_some f j 2 z))
