-- What number 3 says of each procedure, variable and region, and what the other numbers say of each procedure.
-- A procedure that is not there has no variables, regions or goals and passes every test, so `p` may be any number.
use Rattle.std.specs.Prelude.{ℕ, zero, suc, ◌≤◌, ◌<◌, Bool, true, false, ◌≡◌, leb, eqb, length}
use Rattle.std.proofs.lemmas.Bool.{false≢true}
use mathlib.Core.List.{List, [], ◌∷◌}
use Rattle.std.proofs.Math.Logic.{⊎_elim}
use Rattle.std.proofs.Math.Path.{refl, ap, ap₂}
use Rattle.std.proofs.Common.{arith}
use borrow.Author.Tests.{eqb-true, leb-true}
use Rattle.std.proofs.Math.ListN.{take}
use Rattle.sets.specs.Tests.{◌&◌, neg, truth, clash, and_true, true_and, true_neg}
use Rattle.sets.specs.Sets.{member, empty_set, ◌∪◌, eq_same}
use Rattle.sets.specs.SetLaws.{empty_subset}
use Rattle.sets.specs.Members.{set_of}
use Rattle.sets.specs.MemberLaws.{set_of_in, set_of_mk}
use Rattle.language.specs.Lists.{nth1, all, among, up_from, is_none}
use Rattle.language.specs.Program.{Functor, Signature, Procedure, Program, done, Arms, no_arms, arm, four_words, variable_at, type_of, region_at, functors_of, functor_at, procedure_at, signature_of, parameters_of, parameters_from, parameter_variables, arguments_in, variables_in}
use Rattle.language.specs.Typing.{types_in, is_variable, is_region, has_type, have_types, types_of, is_type, regioned, type_ok, types_ok, arms_ok, variable_ok, region_ok, signature_ok, goals_ok, procedure_ok, typing_ok}
use Rattle.language.specs.Values.{ins_of, outs_of, goals_values, outs_valued, procedure_values, values_ok}
use Rattle.language.specs.Regions.{goals_regions, regions_ok}
use Rattle.language.specs.Lifetimes.{of_class, declared, born, dead, kept, start_held, classes_ok, goals_classes, declared_classes_ok, call_classes_ok}
use Rattle.language.specs.Checking.{check_goals, end_rules, procedure_rules, rules_ok}
use Rattle.laws.specs.Numbers.{among_in, among_mk, up_from_in, up_from_mk}
use Rattle.laws.specs.Lists.{all_or_default, all_nth1, nth1_past}
use Rattle.laws.specs.MoreSets.{keep_empty}
use Rattle.laws.specs.Goals.{some_arm}

-- ---- a procedure's variables and regions
module _ (S : Signature) where
  pub variable_in_law : (x : ℕ) → is_variable S x ≡ true → (1 ≤ x) × (x ≤ length S.variables)
  unfolding is_variable
  variable_in_law x e = among_in (length S.variables) x e

  pub variable_mk : (x : ℕ) → 1 ≤ x → x ≤ length S.variables → is_variable S x ≡ true
  unfolding is_variable
  variable_mk x h l = among_mk (length S.variables) x h l

  pub region_in_law : (r : ℕ) → is_region S r ≡ true → (1 ≤ r) × (r ≤ length S.regions)
  unfolding is_region
  region_in_law r e = among_in (length S.regions) r e

  pub region_mk : (r : ℕ) → 1 ≤ r → r ≤ length S.regions → is_region S r ≡ true
  unfolding is_region
  region_mk r h l = among_mk (length S.regions) r h l

  -- there are at most 64
  pub variable_small : length S.variables ≤ 64 → (x : ℕ) → is_variable S x ≡ true → (1 ≤ x) × (x ≤ 64)
  variable_small few x h = let i = variable_in_law x h in (i.0, omega arith)

  pub region_small : length S.regions ≤ 64 → (r : ℕ) → is_region S r ≡ true → (1 ≤ r) × (r ≤ 64)
  region_small few r h = let i = region_in_law r h in (i.0, omega arith)

  -- the set of all regions
  pub declared_in : (r : ℕ) → member (declared S) r ≡ true → is_region S r ≡ true
  unfolding declared
  declared_in r m =
      let i = up_from_in 1 (length S.regions) r (set_of_in (up_from 1 (length S.regions)) r m) in
      region_mk r i.0 (omega arith)

  pub declared_mk : length S.regions ≤ 64 → (r : ℕ) → is_region S r ≡ true → member (declared S) r ≡ true
  unfolding declared
  declared_mk few r h =
      let i = region_in_law r h in
      set_of_mk (up_from 1 (length S.regions)) r (up_from_mk 1 (length S.regions) r i.0 (omega arith)) i.0 (omega arith)

  -- variables of given types
  pub types_had : (ts ys : List ℕ) → have_types S ts ys ≡ true → types_of S ys ≡ ts
  unfolding have_types has_type types_of
  types_had [] [] h = refl
  types_had [] (y ∷ ys) h = absurd (false≢true h)
  types_had (t ∷ ts) [] h = absurd (false≢true h)
  types_had (t ∷ ts) (y ∷ ys) h =
      let a = and_true h in
      ap₂ ◌∷◌ (eqb-true (type_of S y) t (and_true a.0).1) (types_had ts ys a.1)

  -- a number that is none finds the empty one
  pub variable_past : (x : ℕ) → is_variable S x ≡ false → variable_at S x ≡ record { mode = 0; type = 0; region = 0 }
  unfolding is_variable variable_at
  variable_past x e = nth1_past _ S.variables x e

  pub region_past : (r : ℕ) → is_region S r ≡ false → region_at S r ≡ record { type = 0; class = 0; edges = [] }
  unfolding is_region region_at
  region_past r e = nth1_past _ S.regions r e

module _ (T : List (List Functor)) (S : Signature) (ok : signature_ok T S ≡ true) where
  pub variables_few : length S.variables ≤ 64
  unfolding signature_ok
  variables_few = leb-true _ 64 (and_true ok).0

  pub regions_few : length S.regions ≤ 64
  unfolding signature_ok
  regions_few = leb-true _ 64 (and_true (and_true ok).1).0

  pub variable_typed : (x : ℕ) → is_variable S x ≡ true → variable_ok T S (variable_at S x) ≡ true
  unfolding signature_ok is_variable variable_at
  variable_typed x h = all_nth1 _ S.variables (variable_ok T S) x (and_true (and_true (and_true ok).1).1).0 h

  pub region_typed : (r : ℕ) → is_region S r ≡ true → region_ok T S (region_at S r) ≡ true
  unfolding signature_ok is_region region_at
  region_typed r h = all_nth1 _ S.regions (region_ok T S) r (and_true (and_true (and_true ok).1).1).1 h

  -- a type but that of numbers has a functor, and so a switch on it an arm
  pub functors_some : types_ok T ≡ true → (x : ℕ) → is_variable S x ≡ true → leb 1 (type_of S x) ≡ true → 1 ≤ length (functors_of T (type_of S x))
  unfolding functors_of type_of variable_ok is_type among types_ok type_ok
  functors_some types x h l =
      let t = (and_true (and_true (variable_typed x h)).1).0 in
      let f = all_nth1 [] T (type_ok T) (type_of S x) (and_true types).1 (true_and l t) in
      leb-true 1 _ (and_true (and_true f).0).0

-- a type with a functor is not that of numbers
pub functor_typed : (T : List (List Functor)) (t k : ℕ) → k < length (functors_of T t) → 1 ≤ t
unfolding functors_of nth1
functor_typed T zero k l = absurd (omega arith)
functor_typed T (suc t) k l = omega arith

-- ---- types that have regions: a functor with arguments makes the difference
module _ (T : List (List Functor)) where
  pub number_plain : regioned T 0 ≡ false
  unfolding regioned functors_of nth1 all neg
  number_plain = refl

  -- in a type that has none every functor is a constant
  pub plain_types : (t k : ℕ) → regioned T t ≡ false → types_in (functor_at (functors_of T t) k) ≡ []
  unfolding regioned types_in functor_at
  plain_types t k h = ap (λ n. take n (four_words g.argument_types)) (eqb-true g.arity 0 (all_or_default _ _ refl (functors_of T t) k constants))
    where
      g : Functor
      g = functor_at (functors_of T t) k

      constants : all (λ f. eqb f.arity 0) (functors_of T t) ≡ true
      constants = ⊎_elim (λ e. e) (λ e. absurd (clash (true_neg e) h)) (truth (all (λ f. eqb f.arity 0) (functors_of T t)))

  -- so a construct or an arm with arguments is one of a type that has regions
  pub arguments_regioned : (S : Signature) (t k y : ℕ) (ys : List ℕ) → have_types S (types_in (functor_at (functors_of T t) k)) (y ∷ ys) ≡ true
      → regioned T t ≡ true
  unfolding have_types
  arguments_regioned S t k y ys h =
      ⊎_elim (λ e. e) (λ e. absurd (false≢true (rw (plain_types t k e) at h))) (truth (regioned T t))

pub arms_some : (P : Program) (S : Signature) (cs : Arms) (fs : List Functor) (n : ℕ) → arms_ok P S cs fs n ≡ true → 1 ≤ length fs
    → some_arm cs ≡ true
unfolding arms_ok some_arm
arms_some P S no_arms [] n e l = absurd (omega arith)
arms_some P S no_arms (f ∷ fs) n e l = absurd (false≢true e)
arms_some P S (arm g ys gs cs) fs n e l = refl

-- ---- a procedure that is not there
abbrev pub no_signature : Signature
no_signature = record { variables = []; regions = [] }

abbrev pub no_procedure : Procedure
no_procedure = record { signature = no_signature; body = done }

pub no_signature_typed : (T : List (List Functor)) → signature_ok T no_signature ≡ true
unfolding signature_ok all ◌&◌
no_signature_typed T = refl

-- its sets are empty
no_outs : outs_of no_signature ≡ empty_set
unfolding outs_of variables_in arguments_in parameters_of parameters_from parameter_variables set_of
no_outs = refl

no_born : born no_signature ≡ empty_set
unfolding born declared of_class up_from set_of
no_born = keep_empty _

no_dead : dead no_signature ≡ empty_set
unfolding dead declared of_class up_from set_of
no_dead = keep_empty _

no_procedure_typed : (P : Program) → procedure_ok P no_procedure ≡ true
unfolding procedure_ok goals_ok
no_procedure_typed P = true_and (no_signature_typed P.types) refl

no_procedure_valued : (P : Program) → procedure_values P no_procedure ≡ true
unfolding procedure_values goals_values outs_valued
no_procedure_valued P = rw no_outs (empty_subset (ins_of no_signature))

no_signature_classed : classes_ok no_signature ≡ true
unfolding classes_ok
no_signature_classed = rw (no_born, no_dead) (true_and (empty_subset _) (empty_subset _))

no_procedure_ruled : (P : Program) → procedure_rules P no_procedure ≡ true
unfolding procedure_rules check_goals end_rules start_held
no_procedure_ruled P =
    rw (no_born, no_dead, no_outs) (true_and (eq_same (empty_set ∪ kept no_signature) _ refl) (empty_subset (ins_of no_signature)))

-- ---- a test of all procedures, at each
pub each_procedure : (P : Program) (t : Procedure → Bool) → t no_procedure ≡ true → all t P.procedures ≡ true
    → (p : ℕ) → t (procedure_at P p) ≡ true
unfolding procedure_at
each_procedure P t z e p = all_or_default t no_procedure z P.procedures p e

module _ (P : Program) where
  -- number 3
  module _ (ok : typing_ok P ≡ true) where
    pub types_typed : types_ok P.types ≡ true
    unfolding typing_ok
    types_typed = (and_true ok).0

    pub procedures_count : (1 ≤ length P.procedures) × (length P.procedures ≤ 256)
    unfolding typing_ok
    procedures_count = among_in 256 (length P.procedures) (and_true (and_true ok).1).0

    procedure_typed : (p : ℕ) → procedure_ok P (procedure_at P p) ≡ true
    unfolding typing_ok
    procedure_typed p = each_procedure P (procedure_ok P) (no_procedure_typed P) (and_true (and_true ok).1).1 p

    pub signature_typed : (p : ℕ) → signature_ok P.types (signature_of P p) ≡ true
    unfolding signature_of procedure_ok
    signature_typed p = (and_true (procedure_typed p)).0

    pub goals_typed : (p : ℕ) → goals_ok P (signature_of P p) (procedure_at P p).body ≡ true
    unfolding signature_of procedure_ok
    goals_typed p = (and_true (procedure_typed p)).1

  -- number 4
  pub entry_bare : values_ok P ≡ true → is_none (parameters_of (signature_of P 0)) ≡ true
  unfolding values_ok
  entry_bare ok = (and_true ok).0

  pub procedure_valued : values_ok P ≡ true → (p : ℕ) → procedure_values P (procedure_at P p) ≡ true
  unfolding values_ok
  procedure_valued ok p = each_procedure P (procedure_values P) (no_procedure_valued P) (and_true ok).1 p

  -- number 5
  pub goals_regioned : regions_ok P ≡ true → (p : ℕ) → goals_regions P (signature_of P p) (procedure_at P p).body ≡ true
  unfolding regions_ok signature_of goals_regions
  goals_regioned ok p = each_procedure P (λ q. goals_regions P q.signature q.body) refl ok p

  -- number 7
  pub signature_classed : declared_classes_ok P ≡ true → (p : ℕ) → classes_ok (signature_of P p) ≡ true
  unfolding declared_classes_ok signature_of
  signature_classed ok p = each_procedure P (λ q. classes_ok q.signature) no_signature_classed ok p

  pub goals_classed : call_classes_ok P ≡ true
      → (p : ℕ) → goals_classes P (signature_of P p) (procedure_at P p).body (outs_of (signature_of P p)) ≡ true
  unfolding call_classes_ok signature_of goals_classes
  goals_classed ok p = each_procedure P (λ q. goals_classes P q.signature q.body (outs_of q.signature)) refl ok p

  -- number 8
  pub procedure_ruled : rules_ok P ≡ true → (p : ℕ) → procedure_rules P (procedure_at P p) ≡ true
  unfolding rules_ok
  procedure_ruled ok p = each_procedure P (procedure_rules P) (no_procedure_ruled P) ok p
