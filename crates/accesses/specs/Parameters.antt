-- A callee's in and out variables by the sets of them: going through both sets in rising number meets its parameters in turn.
use Rattle.std.specs.Prelude.{ℕ, zero, suc, ◌+◌, ◌≤◌, ◌<◌, ◌≡◌, refl, Bool, false, List, [], ◌∷◌, ◌⊎◌, eqb, leb, length}
use native.Mathlib.Omega.{arith}
use Rattle.std.proofs.Common.{sym, ◌∙◌, inl, inr, leb-true}
use Rattle.std.proofs.Math.Path.{ap}
use Rattle.std.proofs.Math.Bool.{true}
use Rattle.std.proofs.Math.Logic.{⊎_elim}
use Rattle.sets.specs.Tests.{and_true, false_of, same_truth}
use Rattle.sets.specs.Sets.{member, ◌∪◌, union_left, union_right, union_in}
use Rattle.sets.specs.Members.{cons_if, members, set_of, in_list, nil_in, cons_here, cons_later, cons_in, cons_if_in, members_in, members_mk}
use Rattle.sets.specs.MemberLaws.{set_of_in, set_of_mk}
use Rattle.sets.specs.Rising.{Rising, rising_nil, rising_cons, rising_above, members_rising, rising_ext}
use Rattle.sets.specs.declared.Set.{Set}
use Rattle.language.specs.Lists.{choose, all}
use Rattle.laws.specs.Lists.{all_weaker, all_nth}
use Rattle.language.specs.Program.{Variable, Signature, Program, Parameter, signature_of, procedure_at, parameter_in, parameters_from, parameters_of, parameter_variables, arguments_in, variables_in, in_mode, out_mode}
use Rattle.language.specs.Typing.{variable_ok, signature_ok, procedure_ok, typing_ok}
use Rattle.language.specs.Values.{ins_of, outs_of}
use Rattle.language.specs.Format.{max_variables}

-- ---- the numbers of the parameters among variables numbered from x on rise, and are below the end
head_rises : (m x l : ℕ) (ps : List Parameter) → l < x → Rising l (parameter_variables ps) → Rising x (parameter_variables ps)
    → Rising l (parameter_variables (parameter_in m x ps))
unfolding parameter_in parameter_variables
head_rises zero x l ps h p q = p
head_rises (suc m) x l ps h p q = rising_cons h q

rises : (x : ℕ) (vs : List Variable) (l : ℕ) → l < x → Rising l (parameter_variables (parameters_from x vs))
unfolding parameters_from parameter_variables
rises x [] l h = rising_nil
rises x (v ∷ vs) l h = head_rises v.mode x l _ h (rises (suc x) vs l (omega arith)) (rises (suc x) vs x (omega arith))

head_ends : (m x n k : ℕ) (ps : List Parameter) → in_list n (parameter_variables (parameter_in m x ps)) ≡ true
    → (in_list n (parameter_variables ps) ≡ true → n < k) → x < k → n < k
unfolding parameter_in parameter_variables
head_ends zero x n k ps e h l = h e
head_ends (suc m) x n k ps e h l = ⊎_elim (λ q. omega arith) (λ q. h q) (cons_in n x _ e)

ends : (x : ℕ) (vs : List Variable) (n : ℕ) → in_list n (parameter_variables (parameters_from x vs)) ≡ true → n < x + length vs
unfolding parameters_from parameter_variables
ends x [] n e = absurd (nil_in n e)
ends x (v ∷ vs) n e = head_ends v.mode x n (x + length (v ∷ vs)) _ e (λ q. let h = ends (suc x) vs n q in omega arith) (omega arith)

-- ---- each is in or out
pub data InOut : List Parameter → Type 0 where
  inout_nil : InOut []
  inout_in : {x : ℕ} {ps : List Parameter} → InOut ps → InOut (record { mode = in_mode; variable = x } ∷ ps)
  inout_out : {x : ℕ} {ps : List Parameter} → InOut ps → InOut (record { mode = out_mode; variable = x } ∷ ps)

head_inout : (m x : ℕ) (ps : List Parameter) → m ≤ out_mode → InOut ps → InOut (parameter_in m x ps)
unfolding parameter_in
head_inout zero x ps h i = i
head_inout (suc zero) x ps h i = inout_in i
head_inout (suc (suc zero)) x ps h i = inout_out i
head_inout (suc (suc (suc m))) x ps h i = absurd (omega arith)

abbrev few : Variable → Bool
few v = leb v.mode out_mode

inouts : (x : ℕ) (vs : List Variable) → all few vs ≡ true → InOut (parameters_from x vs)
unfolding parameters_from all
inouts x [] e = inout_nil
inouts x (v ∷ vs) e = let h = and_true e in head_inout v.mode x _ (leb-true v.mode out_mode h.0) (inouts (suc x) vs h.1)

-- ---- those of a mode are some of them, and each has one of the two
among_all : (m n : ℕ) (ps : List Parameter) (ys : List ℕ) → in_list n (arguments_in m ps ys) ≡ true → in_list n ys ≡ true
unfolding arguments_in in_list
among_all m n [] ys e = absurd (nil_in n e)
among_all m n (a ∷ ps) [] e = absurd (nil_in n e)
among_all m n (a ∷ ps) (y ∷ ys) e =
    ⊎_elim (λ q. cons_here n y ys q.1) (λ q. cons_later n y ys (among_all m n ps ys q)) (cons_if_in (eqb a.mode m) n y _ e)

one_of : (n : ℕ) (ps : List Parameter) → InOut ps → in_list n (parameter_variables ps) ≡ true
    → (in_list n (arguments_in in_mode ps (parameter_variables ps)) ≡ true) ⊎ (in_list n (arguments_in out_mode ps (parameter_variables ps)) ≡ true)
unfolding arguments_in parameter_variables cons_if
one_of n [] inout_nil e = inl e
one_of n (_ ∷ ps) (inout_in {x = x} i) e =
    ⊎_elim (λ q. inl (cons_here n x _ q)) (λ q. ⊎_elim (λ r. inl (cons_later n x _ r)) (λ r. inr r) (one_of n ps i q)) (cons_in n x _ e)
one_of n (_ ∷ ps) (inout_out {x = x} i) e =
    ⊎_elim (λ q. inr (cons_here n x _ q)) (λ q. ⊎_elim (λ r. inl r) (λ r. inr (cons_later n x _ r)) (one_of n ps i q)) (cons_in n x _ e)

-- ---- the set of in variables tells the mode of each
unfoldable pub told_mode : Set → ℕ → ℕ
told_mode ins x = choose (member ins x) in_mode out_mode

pub data Told (ins : Set) : List Parameter → Type 0 where
  told_nil : Told ins []
  told_cons : {m x : ℕ} {ps : List Parameter} → m ≡ told_mode ins x → Told ins ps → Told ins (record { mode = m; variable = x } ∷ ps)

abbrev Agrees : Set → List Parameter → Type 0
Agrees ins ps = (n : ℕ) → in_list n (parameter_variables ps) ≡ true → member ins n ≡ in_list n (arguments_in in_mode ps (parameter_variables ps))

-- a number above x is not x, and x is not among numbers above it
past_first : (n x : ℕ) (xs : List ℕ) → x < n → in_list n (x ∷ xs) ≡ in_list n xs
past_first n x xs h = same_truth (λ e. ⊎_elim (λ q. absurd (omega arith)) (λ q. q) (cons_in n x xs e)) (λ e. cons_later n x xs e)

not_after : (x : ℕ) (ps : List Parameter) → Rising x (parameter_variables ps) → in_list x (arguments_in in_mode ps (parameter_variables ps)) ≡ false
not_after x ps r = false_of (λ e. omega (arith, rising_above r x (among_all in_mode x ps (parameter_variables ps) e)))

tells : (ins : Set) (l : ℕ) (ps : List Parameter) → InOut ps → Rising l (parameter_variables ps) → Agrees ins ps → Told ins ps
unfolding arguments_in parameter_variables cons_if told_mode choose
tells ins l [] inout_nil r g = told_nil
tells ins l (_ ∷ ps) (inout_in {x = x} i) (rising_cons h r) g =
    told_cons {m = in_mode} {x = x} (rw (g x (cons_here x x _ refl), cons_here x x (arguments_in in_mode ps (parameter_variables ps)) refl) refl)
    (tells ins x ps i r (λ n e. g n (cons_later n x _ e) ∙ past_first n x _ (rising_above r n e)))
tells ins l (_ ∷ ps) (inout_out {x = x} i) (rising_cons h r) g =
    told_cons {m = out_mode} {x = x} (rw (g x (cons_here x x _ refl), not_after x ps r) refl) (tells ins x ps i r (λ n e. g n (cons_later n x _ e)))

-- ---- what a signature declares, as two sets
pub record DeclaredSets (S : Signature) (ins outs : Set) : Type 0 where
  pub some : length S.variables ≤ max_variables
  pub modes : all few S.variables ≡ true
  pub ins_are : ins ≡ ins_of S
  pub outs_are : outs ≡ outs_of S

module _ {S : Signature} {ins outs : Set} (D : DeclaredSets S ins outs) where
  rise : Rising 0 (parameter_variables (parameters_of S))
  unfolding parameters_of
  rise = rises 1 S.variables 0 (omega arith)

  small : (n : ℕ) → in_list n (parameter_variables (parameters_of S)) ≡ true → n ≤ max_variables
  unfolding parameters_of
  small n e = let h = ends 1 S.variables n e in let l = D.some in omega arith

  both_ways : InOut (parameters_of S)
  unfolding parameters_of
  both_ways = inouts 1 S.variables D.modes

  in_set : (m n : ℕ) → member (set_of (variables_in m S)) n ≡ true → in_list n (parameter_variables (parameters_of S)) ≡ true
  unfolding variables_in
  in_set m n e = among_all m n (parameters_of S) _ (set_of_in _ n e)

  to_set : (m n : ℕ) → in_list n (arguments_in m (parameters_of S) (parameter_variables (parameters_of S))) ≡ true → member (set_of (variables_in m S)) n ≡ true
  unfolding variables_in
  to_set m n e =
      let k = among_all m n (parameters_of S) _ e in
      set_of_mk _ n e (rising_above rise n k) (small n k)

  pub tell : Told ins (parameters_of S)
  unfolding ins_of variables_in
  tell =
      tells ins 0 (parameters_of S) both_ways rise
      (λ n e. ap (λ (s : Set). member s n) D.ins_are ∙ same_truth (λ p. set_of_in _ n p) (λ p. to_set in_mode n p))

  pub in_turn : members (ins ∪ outs) ≡ parameter_variables (parameters_of S)
  unfolding ins_of outs_of
  in_turn = rising_ext (members_rising (ins ∪ outs)) rise (λ n. same_truth (down n) (up n))
    where
      down : (n : ℕ) → in_list n (members (ins ∪ outs)) ≡ true → in_list n (parameter_variables (parameters_of S)) ≡ true
      down n e =
          ⊎_elim (λ p. in_set in_mode n (ap (λ (s : Set). member s n) (sym D.ins_are) ∙ p))
          (λ p. in_set out_mode n (ap (λ (s : Set). member s n) (sym D.outs_are) ∙ p))
          (union_in ins outs n (members_in (ins ∪ outs) n e).0)

      up : (n : ℕ) → in_list n (parameter_variables (parameters_of S)) ≡ true → in_list n (members (ins ∪ outs)) ≡ true
      up n e =
          members_mk (ins ∪ outs) n
          (⊎_elim (λ p. union_left ins outs n (ap (λ (s : Set). member s n) D.ins_are ∙ to_set in_mode n p))
          (λ p. union_right ins outs n (ap (λ (s : Set). member s n) D.outs_are ∙ to_set out_mode n p)) (one_of n (parameters_of S) both_ways e))
          (small n e)

-- ---- number 3 says that a procedure's variables are few and each of a mode
pub declares : (P : Program) → typing_ok P ≡ true → {q : ℕ} → q < length P.procedures → {ins outs : Set} → ins ≡ ins_of (signature_of P q) → outs ≡ outs_of (signature_of P q)
    → DeclaredSets (signature_of P q) ins outs
unfolding typing_ok procedure_ok signature_ok variable_ok signature_of procedure_at
declares P t {q} h i o =
    let s = and_true (and_true (all_nth (procedure_ok P) _ P.procedures q (and_true (and_true t).1).1 h)).0 in
    record {
      some =
          leb-true _ max_variables s.0;
      modes = all_weaker _ few _ (λ v e. (and_true e).0) (and_true (and_true s.1).1).0;
      ins_are = i;
      outs_are = o;
    }
