-- A call's arguments against the callee's in and out variables in chain order.
use Prim.Native.Nat.{ℕ, zero, suc, ◌+◌, ◌<◌}
use native.Mathlib.Omega.{arith}
use native.Mathlib.Decide.{dec_lt}
use borrow.Author.Tests.{eq-eqb, ne_eqb, lt-ltb, le-ltb}
use mathlib.Core.Path.{◌≡◌, refl, ap, sym, ◌∙◌}
use mathlib.Core.Bool.{Bool, true, false}
use mathlib.Core.List.{List, ◌∷◌, []}
use lib.Dec.{ltb, eqb}
use lib.ListN.{length, get_or}
use Rattle.sets.specs.Tests.{◌&◌}
use Rattle.laws.specs.Tests.{refuse, pass}
use Rattle.language.specs.Format.{next_word, procedure_variables, variable_mode, variable_type, argument_variable, call_procedure, call_arguments}
use Rattle.language.specs.Lists.{nth, nth1}
use Rattle.language.specs.File.{variables, arguments, word}
use Rattle.language.specs.Program.{Variable, Signature, variable_at, type_of, parameter_in, parameters_from, parameters_of, parameter_variables, signature_of}
use Rattle.language.specs.Answers.{program}
use Rattle.language.specs.Typing.{has_type, have_types, types_of, parameter_types, step_ok, goal_ok}
use Rattle.chains.specs.Formed.{Formed, Stands, arguments_at, arguments_none, variables_at, variables_none, goal_at}
use Rattle.chains.specs.Shapes.{IsCall, call_here, argument_here}
use Rattle.declarations.specs.DeclaredPlaces.{procedure_in}
use Rattle.declarations.specs.Parameters.{takes, taken_types, ParameterFrom, taken_one}
use Rattle.declarations.specs.Declares.{Declares, procedure_listed, callee_variables}

-- ---- from the variable at record v and the argument at record y on
module _ {f : List ℕ} (F : Formed f) (S : Signature) (v y : ℕ) (sv : Stands f variables v) (z : v ≡ 0 → ⊥) (m : word f v variable_mode ≡ 0 → ⊥) where
  pub match_short : y ≡ 0 → false ≡ have_types S (taken_types (variables_at f v)) (arguments_at f y)
  unfolding have_types
  match_short e = rw (taken_one F v sv z m, arguments_none f e)

  module _ (sy : Stands f arguments y) (n : y ≡ 0 → ⊥) {ty x : ℕ} {r : Bool} (et : ty ≡ word f v variable_type) (ex : x ≡ word f y argument_variable) (e : r ≡ has_type S ty x) where
    match_as : have_types S (taken_types (variables_at f v)) (arguments_at f y) ≡ (has_type S ty x & have_types S (taken_types (variables_at f (word f v next_word))) (arguments_at f (word f y next_word)))
    unfolding have_types
    match_as = rw (taken_one F v sv z m, (argument_here F n sy).view, et, ex)

    pub match_wrong : r ≡ false → false ≡ have_types S (taken_types (variables_at f v)) (arguments_at f y)
    match_wrong p = refuse _ e p ∙ sym match_as

    pub match_next : {u y' : ℕ} → r ≡ true → ParameterFrom f (word f v next_word) u → y' ≡ word f y next_word
        → have_types S (taken_types (variables_at f u)) (arguments_at f y') ≡ have_types S (taken_types (variables_at f v)) (arguments_at f y)
    match_next p k ey = rw (ey, k.same) (pass e p refl ∙ sym match_as)

pub match_end : (f : List ℕ) (S : Signature) (v y : ℕ) → Formed f → Stands f arguments y → v ≡ 0 → eqb y 0 ≡ have_types S (taken_types (variables_at f v)) (arguments_at f y)
unfolding taken_types have_types
match_end f S v y F s e =
    elim (dec_lt 0 y) [
      | yes l ↦ rw (ne_eqb y 0 (λ z. omega arith), variables_none f e, (argument_here F (λ z. omega arith) s).view)
      | no l ↦ rw (eq-eqb y 0 (omega arith), variables_none f e, arguments_none f {i = y} (omega arith))
    ]

-- the matching starts at the first in or out variable
pub match_start : (f : List ℕ) (S : Signature) (y : ℕ) {v u : ℕ} → ParameterFrom f v u
    → have_types S (taken_types (variables_at f u)) (arguments_at f y) ≡ have_types S (taken_types (variables_at f v)) (arguments_at f y)
match_start f S y k = ap (λ ts. have_types S ts (arguments_at f y)) k.same

-- the first in or out variable from record w on, by the table
pub parameter_at : {f t : List ℕ} → Declares f t → {w v u : ℕ} → Stands f variables v → w ≡ v → u ≡ get_or t w 0 → ParameterFrom f v u
parameter_at D {w} {v} {u} s ew eu = rw (eu, ew) (D.parameters v s)

-- ---- the types of the in and out variables, by their place in the chain
take_parameter : (S : Signature) (m x ty : ℕ) (vs : List Variable) (ts : List ℕ) (k : ℕ) → type_of S x ≡ ty → types_of S (parameter_variables (parameters_from k vs)) ≡ ts
    → types_of S (parameter_variables (parameter_in m x (parameters_from k vs))) ≡ takes m ty ts
unfolding parameter_in parameter_variables types_of takes
take_parameter S zero x ty vs ts k e h = h
take_parameter S (suc m) x ty vs ts k e h = rw e (ap (λ l. ty ∷ l) h)

parameters_from_law : (S : Signature) (k : ℕ) (vs : List Variable) → ((n : ℕ) → n < length vs → nth (record { mode = 0; type = 0; region = 0 }) S.variables (k + n) ≡ nth (record { mode = 0; type = 0; region = 0 }) vs n)
    → types_of S (parameter_variables (parameters_from (suc k) vs)) ≡ taken_types vs
unfolding parameters_from parameter_variables types_of taken_types type_of variable_at nth1 nth
parameters_from_law S k [] h = refl
parameters_from_law S k (v ∷ vs) h =
    take_parameter S v.mode (suc k) v.type vs (taken_types vs) (suc (suc k))
    (ap (λ u. u.type) (ap (λ n. nth (record { mode = 0; type = 0; region = 0 }) S.variables n) (omega arith) ∙ h 0 (omega arith)))
    (parameters_from_law S (suc k) vs (λ n l. ap (λ m. nth (record { mode = 0; type = 0; region = 0 }) S.variables m) (omega arith) ∙ h (suc n) (omega arith)))

pub parameters_are : (S : Signature) → taken_types S.variables ≡ parameter_types S
unfolding parameter_types parameters_of
parameters_are S = sym (parameters_from_law S 0 S.variables (λ n l. ap (λ m. nth (record { mode = 0; type = 0; region = 0 }) S.variables m) (omega arith)))

-- ---- the call of record i, of a procedure with its record at p
module _ {f t : List ℕ} (D : Declares f t) (S : Signature) (i : ℕ) (n : IsCall f i) where
  call_as : (ltb (word f i call_procedure) (length (program f).procedures) & have_types S (parameter_types (signature_of (program f) (word f i call_procedure))) (arguments_at f (word f i call_arguments)))
      ≡ goal_ok (program f) S (goal_at f i)
  unfolding goal_ok step_ok
  call_as = rw (call_here D.formed refl n).goal

  module _ {q p : ℕ} (eq : q ≡ word f i call_procedure) (ep : p ≡ procedure_in t q) where
    known : ltb 0 p ≡ ltb (word f i call_procedure) (length (program f).procedures)
    known = ap (ltb 0) ep ∙ procedure_listed D q ∙ ap (λ k. ltb k (length (program f).procedures)) eq

    pub call_none : p ≡ 0 → false ≡ goal_ok (program f) S (goal_at f i)
    call_none z = refuse _ known (le-ltb 0 p (omega arith)) ∙ call_as

    pub call_some : (p ≡ 0 → ⊥) → {w y : ℕ} {b : Bool} → w ≡ word f p procedure_variables → y ≡ word f i call_arguments → b ≡ have_types S (taken_types (variables_at f w)) (arguments_at f y)
        → b ≡ goal_ok (program f) S (goal_at f i)
    call_some z {w} {y} ew ey h =
        let k : taken_types (variables_at f w) ≡ parameter_types (signature_of (program f) (word f i call_procedure)) =
        ap (λ j. taken_types (variables_at f j)) ew ∙ ap taken_types (sym (callee_variables D q ep z)) ∙ parameters_are (signature_of (program f) q) ∙ ap (λ k. parameter_types (signature_of (program f) k)) eq in
        pass known (lt-ltb 0 p (omega arith)) (h ∙ ap (λ ts. have_types S ts (arguments_at f y)) k ∙ ap (λ j. have_types S (parameter_types (signature_of (program f) (word f i call_procedure))) (arguments_at f j)) ey) ∙ call_as
