-- The entry's variables: where they start, and that none of them is in or out.
use Prim.Native.Nat.{ℕ, zero, suc, ◌<◌}
use native.Mathlib.Omega.{arith}
use mathlib.Core.Path.{◌≡◌, refl, sym, ap, ◌∙◌}
use mathlib.Core.List.{List, ◌∷◌, []}
use Rattle.language.specs.File.{variables, word, record_count}
use Rattle.language.specs.Lists.{nth, is_none}
use Rattle.language.specs.Program.{signature_of, Variable, Parameter, parameter_in, parameters_from}
use Rattle.language.specs.Answers.{program}
use Rattle.language.specs.Format.{header_procedures, next_word, procedure_variables}
use Rattle.chains.specs.Formed.{Formed, Stands, variables_at, procedures_stand, program_procedures}
use Rattle.chains.specs.Records.{chain_records, records_step, records_none}
use Rattle.chains.specs.Fields.{field_of}
use Rattle.chains.specs.Reached.{procedure_variables_law}
use Rattle.chains.specs.Lookups.{procedure_of_law}
use mathlib.Core.Bool.{true, false}

-- procedure q's variables start at a word of its record
pub record VariablesAt (f : List ℕ) (q v : ℕ) : Type 0 where
  pub stands : Stands f variables v
  pub view : variables_at f v ≡ (signature_of (program f) q).variables

-- the entry's record is the first
first_record : {f : List ℕ} → Formed f → (i : ℕ) → i < record_count f → i ≡ nth 0 (chain_records f i) 0
unfolding nth
first_record {f} F zero q = rw (records_none f {i = 0} refl) refl
first_record {f} F (suc i) q = rw (records_step {w = word f (suc i) next_word} F (λ z. omega arith) q refl) refl

pub entry_declares : {f : List ℕ} → Formed f → {i v : ℕ} → i ≡ word f 0 header_procedures → v ≡ field_of f i procedure_variables → VariablesAt f 0 v
unfolding signature_of
entry_declares {f} F {i} e g =
    let p = e ∙ first_record F (word f 0 header_procedures) (procedures_stand F).below in
    record {
      stands = rw g (procedure_variables_law F i (rw e (procedures_stand F)));
      view = ap (variables_at f) g ∙ sym (ap (λ d. d.signature.variables) (procedure_of_law F (program f) (procedures_stand F) (program_procedures F) 0 p));
    }

pub record Local (vs₀ vs : List Variable) : Type 0 where
  pub number : ℕ
  pub same : is_none (parameters_from number vs) ≡ is_none (parameters_from 1 vs₀)

pub local_first : (vs : List Variable) → Local vs vs
local_first vs = record { number = 1; same = refl }

module _ {vs₀ us vs : List Variable} {mode type region : ℕ} (h : Local vs₀ us) (e : us ≡ record { mode = mode; type = type; region = region } ∷ vs) where
  pub local_next : mode ≡ 0 → Local vs₀ vs
  unfolding parameters_from parameter_in
  local_next z = record { number = suc h.number; same = rw (e, z) at h.same }

  other_some : (n x : ℕ) (ps : List Parameter) → (n ≡ 0 → ⊥) → is_none (parameter_in n x ps) ≡ false
  unfolding parameter_in is_none
  other_some zero x ps z = absurd (z refl)
  other_some (suc n) x ps z = refl

  pub local_stop : (mode ≡ 0 → ⊥) → false ≡ is_none (parameters_from 1 vs₀)
  unfolding parameters_from
  local_stop z = sym (ap (λ t. is_none (parameters_from h.number t)) e ∙ other_some mode h.number (parameters_from (suc h.number) vs) z) ∙ h.same

pub local_last : {vs₀ us : List Variable} → Local vs₀ us → us ≡ [] → true ≡ is_none (parameters_from 1 vs₀)
unfolding parameters_from is_none
local_last h e = (rw e at h.same)
