-- The same of files: the checker accepts one if and only if it passes the numbers before 8 and the rules hold on every path of every
-- procedure; it refuses one with 8 if and only if it passes those and some path of some procedure breaks a rule.
use Rattle.std.specs.Prelude.{ℕ, ◌<◌, true, false, List, ◌∷◌, ◌++◌, ◌↔◌, ◌≡◌, length, [], Ok, Err}
use Rattle.std.proofs.Common.{sym, ap, ◌∙◌, arith}
use Rattle.sets.specs.Tests.{clash, and_true, false_of}
use Rattle.language.specs.declared.Refusal.{Refusal}
use Rattle.language.specs.declared.Refusal.TheVariants.{Header, Form, Typing, Values, Regions, Unreached, Classes, Rules}
use Rattle.language.specs.Lists.{nth}
use Rattle.language.specs.File.{word, record_count, header_ok, form_ok}
use Rattle.language.specs.Program.{Program, procedure_at}
use Rattle.language.specs.Conditions.{conditions_ok}
use Rattle.language.specs.Typing.{procedure_ok, typing_ok}
use Rattle.language.specs.Values.{values_ok}
use Rattle.language.specs.Regions.{regions_ok}
use Rattle.language.specs.CallChains.{reached_ok}
use Rattle.language.specs.Lifetimes.{declared_classes_ok}
use Rattle.language.specs.Checking.{procedure_rules, rules_ok}
use Rattle.language.specs.Answers.{refusal_number, Stage, stage, program, file_stages, reached_stages, checker_stages, checked}
use Rattle.laws.specs.Lists.{all_nth, all_fails}
use Rattle.laws.specs.Stages.{Passed, lowest_passed, passed_lowest, Others, refused_last, last_refused, passed_reached, reached_passed}
use Rattle.paths.specs.Paths.{paths, path_rules, EveryProcedure}
use Rattle.paths.proofs.Accepting.{procedure_rules_law, procedure_named, rules_every_path}

-- the numbers before 8 that the checker looks at
pub record PassesBefore8 (f : List ℕ) : Type 0 where
  pub header : header_ok f ≡ true
  pub form : form_ok (word f) (record_count f) ≡ true
  pub conditions : conditions_ok (program f) ≡ true
  pub typing : typing_ok (program f) ≡ true
  pub values : values_ok (program f) ≡ true
  pub regions : regions_ok (program f) ≡ true
  pub reached : reached_ok (program f) ≡ true
  pub classes : declared_classes_ok (program f) ≡ true

-- a path of a procedure, by their numbers, along which a rule is broken
pub record BrokenPath (P : Program) : Type 0 where
  pub procedure : ℕ
  pub declared : procedure < length P.procedures
  pub path : ℕ
  pub listed : path < length (paths (procedure_at P procedure).body)
  pub breaks : path_rules P (procedure_at P procedure).signature (nth [] (paths (procedure_at P procedure).body) path) ≡ false

-- ---- stages
-- those before number 8, which give other numbers
before_8 : List ℕ → List Stage
before_8 f = reached_stages f ++ (stage Classes (declared_classes_ok (program f)) ∷ [])

not_8 : (r : Refusal) → (refusal_number r ≡ 8 → ⊥) → r ≡ Rules → ⊥
unfolding refusal_number
not_8 r n e = n (ap refusal_number e)

others : (f : List ℕ) → Others Rules (before_8 f)
unfolding before_8 reached_stages file_stages refusal_number
others f = (
  not_8 Header (λ e. omega arith),
  (not_8 Form (λ e. omega arith), (not_8 Form (λ e. omega arith), (not_8 Typing (λ e. omega arith), (not_8 Values (λ e. omega arith), (not_8 Regions (λ e. omega arith), (not_8 Unreached (λ e. omega arith), (not_8 Classes (λ e. omega arith), tt))))))),
)

passed_before : (f : List ℕ) (ss : List Stage) → Passed (before_8 f ++ ss) → PassesBefore8 f × Passed ss
unfolding before_8 reached_stages file_stages
passed_before f ss p =
    let q = passed_reached f (stage Classes (declared_classes_ok (program f)) ∷ ss) p in
    let r = q.0 in
    (record { header = r.header; form = r.form; conditions = r.conditions; typing = r.typing; values = r.values; regions = r.regions; reached = q.1; classes = q.2.0 }, q.2.1)

before_passed : (f : List ℕ) (ss : List Stage) → PassesBefore8 f → Passed ss → Passed (before_8 f ++ ss)
unfolding before_8 reached_stages file_stages
before_passed f ss q p =
    reached_passed f (stage Classes (declared_classes_ok (program f)) ∷ ss)
    (record { header = q.header; form = q.form; conditions = q.conditions; typing = q.typing; values = q.values; regions = q.regions }) q.reached (q.classes, p)

-- ---- the theorems
pub accepted_every_path : (f : List ℕ) → (checked f ≡ Ok tt) ↔ (PassesBefore8 f × EveryProcedure (program f))
unfolding checked checker_stages before_8 reached_stages file_stages
accepted_every_path f = (to, from)
  where
    to : checked f ≡ Ok tt → PassesBefore8 f × EveryProcedure (program f)
    to e =
        let p = passed_before f (stage Rules (rules_ok (program f)) ∷ []) (lowest_passed (checker_stages f) e) in
        (p.0, (rules_every_path (program f) p.0.typing).0 p.1.0)

    from : PassesBefore8 f × EveryProcedure (program f) → checked f ≡ Ok tt
    from q =
        passed_lowest (checker_stages f)
        (before_passed f (stage Rules (rules_ok (program f)) ∷ []) q.0 ((rules_every_path (program f) q.0.typing).1 q.1, tt))

-- rules that do not hold on every path are broken on one
pub broken_path : (P : Program) → typing_ok P ≡ true → (rules_ok P ≡ false) ↔ BrokenPath P
unfolding typing_ok rules_ok procedure_at
broken_path P t = (to, from)
  where
    to : rules_ok P ≡ false → BrokenPath P
    to e =
        let r = and_true t in
        let a = all_fails (procedure_rules P) _ P.procedures e in
        let p = procedure_at P a.0 in
        let o = all_nth (procedure_ok P) _ P.procedures a.0 (and_true r.1).1 a.1 in
        let b = all_fails (path_rules P p.signature) [] (paths p.body) (sym (procedure_rules_law P p (procedure_named P p r.0 o)) ∙ a.2) in
        record { procedure = a.0; declared = a.1; path = b.0; listed = b.1; breaks = b.2 }

    from : BrokenPath P → rules_ok P ≡ false
    from q =
        false_of (λ e. clash
        (all_nth (path_rules P (procedure_at P q.procedure).signature) [] (paths (procedure_at P q.procedure).body) q.path
        ((rules_every_path P t).0 e q.procedure q.declared).rules q.listed) q.breaks)

pub refused_broken_path : (f : List ℕ) → (checked f ≡ Err Rules) ↔ (PassesBefore8 f × BrokenPath (program f))
unfolding checked checker_stages before_8 reached_stages file_stages
refused_broken_path f = (to, from)
  where
    to : checked f ≡ Err Rules → PassesBefore8 f × BrokenPath (program f)
    to e =
        let p = refused_last Rules (rules_ok (program f)) (before_8 f) (others f) e in
        let r = (passed_before f [] p.0).0 in
        (r, (broken_path (program f) r.typing).0 p.1)

    from : PassesBefore8 f × BrokenPath (program f) → checked f ≡ Err Rules
    from q = last_refused Rules (rules_ok (program f)) (before_8 f) (before_passed f [] q.0 tt) ((broken_path (program f) q.0.typing).1 q.1)
