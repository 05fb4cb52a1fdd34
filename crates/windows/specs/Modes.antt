-- The variables of one mode among those that a procedure declares.
use Rattle.std.specs.Prelude.{ℕ, zero, suc, ◌<◌, ◌≡◌, refl, List, [], ◌∷◌, eqb, map}
use Rattle.std.proofs.Common.{arith, ap, ◌∙◌, ne_eqb}
use Rattle.sets.specs.Members.{cons_if}
use Rattle.language.specs.File.{variables}
use Rattle.language.specs.Format.{variable_mode}
use Rattle.chains.specs.Fields.{field_of}
use Rattle.chains.specs.Formed.{Formed, Stands, variables_at}
use Rattle.chains.specs.Records.{chain_records}
use Rattle.chains.specs.Elements.{variable_from, variables_map}
use Rattle.windows.specs.Numbered.{numbered, numbers_with}
use Rattle.language.specs.Program.{Variable, Signature, parameter_in, parameters_from, parameters_of, parameter_variables, arguments_in, variables_in}

-- those numbered from x on
unfoldable pub mode_from : ℕ → ℕ → List Variable → List ℕ
mode_from m x vs = arguments_in m (parameters_from x vs) (parameter_variables (parameters_from x vs))

unfoldable pub of_mode : ℕ → List Variable → List ℕ
of_mode m vs = mode_from m 1 vs

-- the definition's words for it
pub variables_in_law : (m : ℕ) (S : Signature) → variables_in m S ≡ of_mode m S.variables
unfolding variables_in parameters_of of_mode mode_from
variables_in_law m S = refl

mode_step : (m x n t r : ℕ) (vs : List Variable) → 0 < m → mode_from m x (record { mode = n; type = t; region = r } ∷ vs) ≡ cons_if (eqb n m) x (mode_from m (suc x) vs)
unfolding mode_from parameters_from parameter_in parameter_variables arguments_in cons_if
mode_step m x zero t r vs p = rw (ne_eqb 0 m (λ e. omega arith)) refl
mode_step m x (suc n) t r vs p = refl

-- ---- they are the numbers of the records with that mode
module _ (f : List ℕ) {m : ℕ} (p : 0 < m) where
  modes_from : (x : ℕ) (js : List ℕ) → mode_from m x (map (variable_from f) js) ≡ numbered f variable_mode m x js
  unfolding numbered mode_from parameters_from parameter_variables arguments_in
  modes_from x [] = refl
  modes_from x (j ∷ js) = mode_step m x _ (variable_from f j).type (variable_from f j).region _ p ∙ ap (cons_if (eqb (field_of f j variable_mode) m) x) (modes_from (suc x) js)

  pub modes_numbered : {i : ℕ} → Formed f → Stands f variables i → of_mode m (variables_at f i) ≡ numbers_with f i variable_mode m
  unfolding of_mode
  modes_numbered {i} F s = ap (of_mode m) (variables_map F i s) ∙ modes_from 1 (chain_records f i)
