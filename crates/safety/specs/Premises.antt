-- What is taken for granted of a program, that it passes numbers 3, 4, 5, 7 and 8, and what follows for each procedure.
use Rattle.std.specs.Prelude.{◌≡◌, refl, true, List, [], ◌∷◌, ℕ}
use Rattle.std.proofs.lemmas.Bool.{false≢true}
use Rattle.sets.specs.Sets.{empty_set}
use Rattle.sets.specs.SetLaws.{subset_refl}
use Rattle.sets.specs.Members.{set_of}
use Rattle.language.specs.Program.{call, Parameter, Procedure, Program, procedure_at, signature_of, parameters_of, parameter_variables, in_mode, out_mode, arguments_in, variables_in}
use Rattle.language.specs.Typing.{step_ok, goals_ok, typing_ok}
use Rattle.language.specs.Values.{ins_of, outs_of, values_ok}
use Rattle.language.specs.Regions.{step_regions, goals_regions, regions_ok}
use Rattle.language.specs.Lifetimes.{start_held, declared_classes_ok}
use Rattle.language.specs.Checking.{check_goals, end_rules, procedure_rules, rules_ok, Carried, broken, carries}
use Rattle.laws.specs.Lists.{none_in}
use Rattle.laws.specs.Goals.{before_done}
use Rattle.region_graph.specs.Laws.{shared, Declared, Called}
use Rattle.region_graph.specs.Typed.{signature_typed, goals_typed, entry_bare, goals_regioned, signature_classed, procedure_ruled}
use Rattle.region_graph.specs.Procedure.{declared_all}
use Rattle.region_graph.specs.Calls.{called}
use Rattle.safety.specs.Doing.{Doing, ends, segment}
use Rattle.safety.specs.Signatures.{Fit, none_shared}

pub record Accepted (P : Program) : Type 0 where
  pub typing : typing_ok P ≡ true
  pub values : values_ok P ≡ true
  pub regions : regions_ok P ≡ true
  pub classes : declared_classes_ok P ≡ true
  pub rules : rules_ok P ≡ true

module _ {P : Program} (A : Accepted P) where
  pub laws : (p : ℕ) → Declared P.types (signature_of P p)
  laws p = declared_all P A.typing p

  pub calling : (p q : ℕ) (ys : List ℕ) → step_ok P (signature_of P p) (call q ys) ≡ true → step_regions P (signature_of P p) (call q ys) ≡ true
      → Called (signature_of P p) (signature_of P q) ys
  calling p q ys o r = called P p q ys A.typing o r

  pub fit : (p : ℕ) → Fit P.types (signature_of P p)
  fit p = record { typed = signature_typed P A.typing p; classes = signature_classed P A.classes p }

-- ---- a procedure's goals, from its start
rules_doing : (P : Program) (p : Procedure) (c : Carried) → goals_ok P p.signature p.body ≡ true
    → goals_regions P p.signature p.body ≡ true
    → check_goals P p.signature p.body (start_held p.signature) (ins_of p.signature) ≡ c → end_rules p.signature c ≡ true
    → Doing P p.signature p.body (start_held p.signature) (ins_of p.signature)
unfolding end_rules
rules_doing P p broken o r e q = absurd (false≢true q)
rules_doing P p (carries k t) o r e q = segment p.body (before_done p.body) o r e (subset_refl t) (ends q)

pub start_doing : {P : Program} → Accepted P → (p : ℕ)
    → Doing P (signature_of P p) (procedure_at P p).body (start_held (signature_of P p)) (ins_of (signature_of P p))
unfolding procedure_rules signature_of
start_doing {P} A p =
    rules_doing P (procedure_at P p) _ (goals_typed P A.typing p) (goals_regioned P A.regions p) refl (procedure_ruled P A.rules p)

-- ---- the entry
-- "an in or out variable on the entry" is refused
pub entry_variables : {P : Program} → Accepted P → (m : ℕ) → set_of (variables_in m (signature_of P 0)) ≡ empty_set
unfolding variables_in arguments_in set_of
entry_variables {P} A m = go (parameters_of (signature_of P 0)) (none_in (parameters_of (signature_of P 0)) (entry_bare P A.values))
  where
    go : (ps : List Parameter) → ps ≡ [] → set_of (arguments_in m ps (parameter_variables ps)) ≡ empty_set
    go [] e = refl
    go (a ∷ ps) e = absurd (false≢true (cc))

pub entry_unshared : {P : Program} (A : Accepted P) (r : ℕ) → shared (signature_of P 0) r → ⊥
unfolding ins_of outs_of
entry_unshared {P} A r e = none_shared (signature_of P 0) (entry_variables A in_mode) (entry_variables A out_mode) r e
