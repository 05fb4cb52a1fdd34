-- A procedure's in and out variables: they are variables of its own, and each is of one of the two modes.
use Rattle.std.specs.Prelude.{ℕ, zero, suc, ◌+◌, ◌≤◌, ◌<◌, true, List, [], ◌∷◌, ◌⊎◌, ◌≡◌, refl, eqb, length}
use Rattle.std.proofs.Common.{inl, inr, ⊎_elim, arith, eq-eqb, leb-true}
use Rattle.sets.specs.Tests.{and_true, true_and}
use Rattle.sets.specs.Sets.{member}
use Rattle.sets.specs.Members.{set_of, in_list, nil_in, cons_here, cons_later, cons_in, cons_if_in, cons_if_here, cons_if_later}
use Rattle.sets.specs.SetLaws.{small_top}
use Rattle.sets.specs.MemberLaws.{set_of_in, set_of_mk, small_set_of}
use Rattle.language.specs.Lists.{all, among}
use Rattle.language.specs.Program.{Functor, Variable, Signature, Parameter, parameter_in, parameters_from, parameters_of, parameter_variables, arguments_in, variables_in, in_mode, out_mode}
use Rattle.language.specs.Typing.{is_variable, variable_ok, signature_ok}
use Rattle.language.specs.Values.{ins_of, outs_of}
use Rattle.laws.specs.Numbers.{among_in, among_mk}
use Rattle.region_graph.specs.Typed.{variable_in_law, variable_mk}

-- ---- the parameters among variables numbered from n on
from_in : (n : ℕ) (vs : List Variable) (x : ℕ) → in_list x (parameter_variables (parameters_from n vs)) ≡ true → (n ≤ x) × (x < n + length vs)
unfolding parameters_from parameter_in parameter_variables
from_in n [] x e = absurd (nil_in x e)
from_in n (v ∷ vs) x e = go v.mode e (from_in (suc n) vs x)
  where
    go : (m : ℕ) → in_list x (parameter_variables (parameter_in m n (parameters_from (suc n) vs))) ≡ true
        → (in_list x (parameter_variables (parameters_from (suc n) vs)) ≡ true → (suc n ≤ x) × (x < suc n + length vs))
        → (n ≤ x) × (x < n + suc (length vs))
    go zero e ih = let r = ih e in (omega arith, omega arith)
    go (suc m) e ih =
        ⊎_elim (λ p. (omega arith, omega arith)) (λ q. let r = ih q in (omega arith, omega arith))
        (cons_in x n (parameter_variables (parameters_from (suc n) vs)) e)

pub parameter_variable : (S : Signature) (x : ℕ) → in_list x (parameter_variables (parameters_of S)) ≡ true → is_variable S x ≡ true
unfolding parameters_of
parameter_variable S x e = let r = from_in 1 S.variables x e in variable_mk S x r.0 (omega arith)

-- ---- one mode's among them
pub arguments_in_law : (m : ℕ) (ps : List Parameter) (ys : List ℕ) (y : ℕ) → in_list y (arguments_in m ps ys) ≡ true → in_list y ys ≡ true
unfolding arguments_in
arguments_in_law m [] ys y e = absurd (nil_in y e)
arguments_in_law m (a ∷ ps) [] y e = absurd (nil_in y e)
arguments_in_law m (a ∷ ps) (z ∷ ys) y e =
    ⊎_elim (λ q. cons_here y z ys q.1) (λ q. cons_later y z ys (arguments_in_law m ps ys y q))
    (cons_if_in (eqb a.mode m) y z (arguments_in m ps ys) e)

pub mode_parameter : (S : Signature) (m x : ℕ) → in_list x (variables_in m S) ≡ true → in_list x (parameter_variables (parameters_of S)) ≡ true
unfolding variables_in
mode_parameter S m x e = arguments_in_law m (parameters_of S) (parameter_variables (parameters_of S)) x e

-- ---- number 3 knows no other mode
pub in_or_out : (m : ℕ) → among 2 m ≡ true → (m ≡ in_mode) ⊎ (m ≡ out_mode)
in_or_out zero e = absurd (let r = among_in 2 0 e in omega arith)
in_or_out (suc zero) e = inl refl
in_or_out (suc (suc zero)) e = inr refl
in_or_out (suc (suc (suc m))) e = absurd (let r = among_in 2 (suc (suc (suc m))) e in omega arith)

modes_from_law : (T : List (List Functor)) (S : Signature) (n : ℕ) (vs : List Variable) → all (variable_ok T S) vs ≡ true
    → all (λ a. among 2 a.mode) (parameters_from n vs) ≡ true
unfolding all parameters_from parameter_in variable_ok
modes_from_law T S n [] e = refl
modes_from_law T S n (v ∷ vs) e =
    let r = and_true e in
    go v.mode (leb-true v.mode 2 (and_true r.0).0) (modes_from_law T S (suc n) vs r.1)
  where
    go : (m : ℕ) → m ≤ 2 → all (λ a. among 2 a.mode) (parameters_from (suc n) vs) ≡ true
        → all (λ a. among 2 a.mode) (parameter_in m n (parameters_from (suc n) vs)) ≡ true
    go zero h ih = ih
    go (suc m) h ih = true_and (among_mk 2 (suc m) (omega arith) h) ih

pub modes : (T : List (List Functor)) (S : Signature) → signature_ok T S ≡ true → all (λ a. among 2 a.mode) (parameters_of S) ≡ true
unfolding signature_ok parameters_of
modes T S ok = modes_from_law T S 1 S.variables (and_true (and_true (and_true ok).1).1).0

of_mode_law : (x : ℕ) (ps : List Parameter) → all (λ a. among 2 a.mode) ps ≡ true → in_list x (parameter_variables ps) ≡ true
    → (in_list x (arguments_in in_mode ps (parameter_variables ps)) ≡ true) ⊎ (in_list x (arguments_in out_mode ps (parameter_variables ps)) ≡ true)
unfolding all arguments_in parameter_variables
of_mode_law x [] h e = absurd (nil_in x e)
of_mode_law x (a ∷ ps) h e =
    let r = and_true h in
    ⊎_elim
    (λ p. ⊎_elim (λ q. inl (cons_if_here (eqb a.mode in_mode) x a.variable _ (eq-eqb a.mode in_mode q) p))
    (λ q. inr (cons_if_here (eqb a.mode out_mode) x a.variable _ (eq-eqb a.mode out_mode q) p)) (in_or_out a.mode r.0))
    (λ q. ⊎_elim (λ p. inl (cons_if_later (eqb a.mode in_mode) x a.variable _ p))
    (λ p. inr (cons_if_later (eqb a.mode out_mode) x a.variable _ p)) (of_mode_law x ps r.1 q))
    (cons_in x a.variable (parameter_variables ps) e)

pub parameter_mode : (T : List (List Functor)) (S : Signature) → signature_ok T S ≡ true → (x : ℕ)
    → in_list x (parameter_variables (parameters_of S)) ≡ true
    → (in_list x (variables_in in_mode S) ≡ true) ⊎ (in_list x (variables_in out_mode S) ≡ true)
unfolding variables_in
parameter_mode T S ok x e = of_mode_law x (parameters_of S) (modes T S ok) e

-- ---- the sets of in and of out variables
module _ (S : Signature) where
  pub ins_in : (x : ℕ) → member (ins_of S) x ≡ true → in_list x (variables_in in_mode S) ≡ true
  unfolding ins_of
  ins_in x m = set_of_in (variables_in in_mode S) x m

  pub outs_in : (x : ℕ) → member (outs_of S) x ≡ true → in_list x (variables_in out_mode S) ≡ true
  unfolding outs_of
  outs_in x m = set_of_in (variables_in out_mode S) x m

  pub ins_top : (x : ℕ) → member (ins_of S) x ≡ true → x ≤ 64
  unfolding ins_of
  ins_top x m = small_top (set_of (variables_in in_mode S)) (small_set_of (variables_in in_mode S)) x m

  pub outs_top : (x : ℕ) → member (outs_of S) x ≡ true → x ≤ 64
  unfolding outs_of
  outs_top x m = small_top (set_of (variables_in out_mode S)) (small_set_of (variables_in out_mode S)) x m

  module _ (few : length S.variables ≤ 64) where
    pub ins_mk : (x : ℕ) → in_list x (variables_in in_mode S) ≡ true → member (ins_of S) x ≡ true
    unfolding ins_of
    ins_mk x e =
        let r = variable_in_law S x (parameter_variable S x (mode_parameter S in_mode x e)) in
        set_of_mk (variables_in in_mode S) x e r.0 (omega arith)

    pub outs_mk : (x : ℕ) → in_list x (variables_in out_mode S) ≡ true → member (outs_of S) x ≡ true
    unfolding outs_of
    outs_mk x e =
        let r = variable_in_law S x (parameter_variable S x (mode_parameter S out_mode x e)) in
        set_of_mk (variables_in out_mode S) x e r.0 (omega arith)
