-- A procedure that passes number 3 names numbers to 64 only, as `Named` says, and each of its switches has an arm.
use Rattle.std.specs.Prelude.{ℕ, suc, Bool, ◌≡◌, leb, eqb, length}
use Rattle.std.proofs.Math.Bool.{true, false}
use Rattle.std.proofs.lemmas.Bool.{false≢true}
use mathlib.Core.List.{List, ◌∷◌, []}
use Rattle.std.proofs.Common.{⊎_elim, arith, le-leb}
use Rattle.std.proofs.Math.Path.{refl}
use Rattle.sets.specs.Tests.{and_true, true_and}
use Rattle.sets.specs.Members.{cons_if}
use Rattle.language.specs.Lists.{all, among}
use Rattle.language.specs.Program.{Functor, arguments_of, Step, literal, sum, assign, construct, call, print, create, remove, test, Goals, done, ◌then◌, Goal, step, switch, if_less, try, Arms, no_arms, arm, Signature, Program, type_of, region_of, signature_of, Parameter, parameters_of, in_mode, arguments_in}
use Rattle.language.specs.Values.{access, accessing}
use Rattle.language.specs.Typing.{is_variable, is_region, has_type, have_types, arguments_ok, types_ok, signature_ok, functors_for, parameter_types, step_ok, goals_ok, goal_ok, arms_ok}
use Rattle.laws.specs.Numbers.{among_wider}
use Rattle.region_graph.specs.Typed.{variables_few, regions_few, region_small, functors_some, arms_some}
use Rattle.region_graph.specs.Procedure
use Rattle.paths.proofs.Named.{region_named, step_named, goals_named, goal_named, arms_named}

-- ---- what number 3 says of a procedure
module _ (P : Program) (S : Signature) (types : types_ok P.types ≡ true) (declared : signature_ok P.types S ≡ true) where
  variable_named : (x : ℕ) → is_variable S x ≡ true → among 64 x ≡ true
  unfolding is_variable
  variable_named x e = among_wider (length S.variables) 64 x (variables_few P.types S declared) e

  region_named_law : (r : ℕ) → is_region S r ≡ true → among 64 r ≡ true
  unfolding is_region
  region_named_law r e = among_wider (length S.regions) 64 r (regions_few P.types S declared) e

  typed_named : (t x : ℕ) → has_type S t x ≡ true → among 64 x ≡ true
  unfolding has_type
  typed_named t x e = variable_named x (and_true e).0

  arguments_named : (ts xs : List ℕ) → have_types S ts xs ≡ true → all (among 64) xs ≡ true
  unfolding have_types all
  arguments_named [] [] e = refl
  arguments_named [] (x ∷ xs) e = absurd (false≢true e)
  arguments_named (t ∷ ts) [] e = absurd (false≢true e)
  arguments_named (t ∷ ts) (x ∷ xs) e = let r = and_true e in true_and (typed_named t x r.0) (arguments_named ts xs r.1)

  -- some of them
  cons_if_named : (b : Bool) (x : ℕ) (xs : List ℕ) → among 64 x ≡ true → all (among 64) xs ≡ true → all (among 64) (cons_if b x xs) ≡ true
  unfolding cons_if all
  cons_if_named true x xs e f = true_and e f
  cons_if_named false x xs e f = f

  some_named : (m : ℕ) (ps : List Parameter) (xs : List ℕ) → all (among 64) xs ≡ true → all (among 64) (arguments_in m ps xs) ≡ true
  unfolding arguments_in all
  some_named m [] xs e = refl
  some_named m (a ∷ ps) [] e = refl
  some_named m (a ∷ ps) (x ∷ xs) e =
      let r = and_true e in
      cons_if_named (eqb a.mode m) x (arguments_in m ps xs) r.0 (some_named m ps xs r.1)

  -- a construct's region, if it has one
  built_named : (x : ℕ) → leb (region_of S x) 64 ≡ true
  built_named x =
      ⊎_elim (λ z. le-leb (region_of S x) 64 (omega (arith, z))) (λ r. le-leb _ 64 (region_small S (regions_few P.types S declared) (region_of S x) r).1)
      ((Procedure.declared P.types S declared).own x)

  step_named_law : (g : Step) → step_ok P S g ≡ true → step_named P S g ≡ true
  unfolding step_ok step_named region_named access accessing all arguments_ok
  step_named_law (literal x v) e = true_and refl refl
  step_named_law (sum x o y z) e =
      let r = and_true (and_true (and_true e).1).1 in
      true_and (true_and (typed_named 0 y r.0) (true_and (typed_named 0 z r.1) refl)) refl
  step_named_law (assign x y) e = true_and (true_and (typed_named (type_of S x) y (and_true e).1) refl) refl
  step_named_law (construct x f ys) e =
      true_and (arguments_named _ (arguments_of ys) (and_true (and_true e).1).1) (built_named x)
  step_named_law (call q ys) e =
      true_and (some_named in_mode (parameters_of (signature_of P q)) ys (arguments_named (parameter_types (signature_of P q)) ys (and_true e).1)) refl
  step_named_law (print y) e = true_and (true_and (typed_named 0 y e) refl) refl
  step_named_law (test y z) e = let r = and_true e in true_and (true_and (typed_named 0 y r.0) (true_and (typed_named 0 z r.1) refl)) refl
  step_named_law (create r) e = true_and refl (region_named_law r e)
  step_named_law (remove r) e = true_and refl (region_named_law r e)

  mutual
    unfolding goals_ok goals_named functors_for

    pub goals_named_law : (gs : Goals) → goals_ok P S gs ≡ true → goals_named P S gs ≡ true
    goals_named_law done e = refl
    goals_named_law (g then gs) e = let r = and_true e in true_and (goal_named_law g r.0) (goals_named_law gs r.1)

    pub goal_named_law : (g : Goal) → goal_ok P S g ≡ true → goal_named P S g ≡ true
    goal_named_law (step g) e = step_named_law g e
    goal_named_law (switch x cs) e =
        let r = and_true e in
        let q = and_true r.1 in
        true_and (arms_some P S cs (functors_for P S x) 0 q.1 (functors_some P.types S declared types x r.0 q.0)) (arms_named_law cs (functors_for P S x) 0 q.1)
    goal_named_law (if_less y z a b) e =
        let r = and_true (and_true (and_true e).1).1 in
        true_and (goals_named_law a r.0) (goals_named_law b r.1)
    goal_named_law (try c a b) e =
        let r = and_true e in
        let q = and_true r.1 in
        true_and (goals_named_law c r.0) (true_and (goals_named_law a q.0) (goals_named_law b q.1))

    pub arms_named_law : (cs : Arms) (fs : List Functor) (n : ℕ) → arms_ok P S cs fs n ≡ true → arms_named P S cs ≡ true
    arms_named_law no_arms fs n e = refl
    arms_named_law (arm g ys gs cs) [] n e = absurd (false≢true e)
    arms_named_law (arm g ys gs cs) (f ∷ fs) n e =
        let r = and_true (and_true (and_true e).1).1 in
        true_and (goals_named_law gs r.0) (arms_named_law cs fs (suc n) r.1)
