-- Demand 3, proved: `demand_3` and `written_accepted` are the two claims of `Statement`.
use Rattle.std.specs.Prelude.{ℕ, zero, suc, ◌≤◌, true, List, ◌≡◌, Ok}
use Rattle.std.proofs.Common.{arith, sym, ap, ◌∙◌, leb-true}
use Rattle.std.proofs.Math.Decide.{dec_le}
use Rattle.sets.specs.Tests.{and_true}
use Rattle.language.specs.Layout.{size}
use Rattle.language.specs.Program.{Program}
use Rattle.language.specs.Records.{program_tree}
use Rattle.language.specs.CallChains.{reached_ok}
use Rattle.language.specs.Lifetimes.{declared_classes_ok}
use Rattle.language.specs.Annotation.{annotate}
use Rattle.language.specs.Checking.{rules_ok}
use Rattle.language.specs.Answers.{lowest, program, file_of, room_ok, annotator_stages, checker_stages, annotated, checked}
use Rattle.language.specs.Conditions.{conditions_ok}
use Rattle.laws.specs.Conditions.{stripped_conditions}
use Rattle.laws.specs.Stages.{lowest_passed, passed_lowest, Read, passed_reached, reached_passed, writes_passed}
use Rattle.layout.specs.Programs.{program_written, form_of_program, header_of_program}
use Rattle.call_graph.proofs.Stripped.{stripped_reached}
use Rattle.placement.specs.Strip.{strip_annotate}
use Rattle.placement.specs.Whole.{Annotatable, accepted_again, typed_again, values_again, regions_again, classes_again}
use Rattle.lockstep.specs.Counted.{spent}
use Rattle.lockstep.proofs.Lock as Lock
use Rattle.safety.specs.Premises as Premises
use Rattle.safety.proofs.Safety.{safe, taken, clean}
use Rattle.safety.specs.Since.{goes_back}
use Rattle.soundness.specs.Statement.{Demand3, Written}

-- what was spent stays so
spent_more : (P : Program) (n k : ℕ) → n ≤ k → spent P n ≤ spent P k
unfolding spent
spent_more P n zero l = let z : n ≡ 0 = omega arith in rw z (omega arith)
spent_more P n (suc k) l = elim (dec_le n k) [
  | yes h ↦ omega (arith, spent_more P n k h)
  | no h ↦ let z : n ≡ suc k = omega (arith, h) in rw z (omega arith)
]

-- ---- an accepted file
-- what it has passed: numbers 1 to 5, 17, 7 and 8
pub record Checked (f : List ℕ) : Type 0 where
  pub read : Read f
  pub reached : reached_ok (program f) ≡ true
  pub classes : declared_classes_ok (program f) ≡ true
  pub rules : rules_ok (program f) ≡ true

pub checked_is : (f : List ℕ) → checked f ≡ Ok tt → Checked f
unfolding checked checker_stages
checked_is f e =
    let p = passed_reached f _ (lowest_passed (checker_stages f) e) in
    record { read = p.0; reached = p.1; classes = p.2.0; rules = p.2.1.0 }

pub is_checked : (f : List ℕ) → Checked f → checked f ≡ Ok tt
unfolding checked checker_stages
is_checked f c = passed_lowest (checker_stages f) (reached_passed f _ c.read c.reached (c.classes, (c.rules, tt)))

accepted_program : (f : List ℕ) → Checked f → Premises.Accepted (program f)
accepted_program f c =
    record { typing = c.read.typing; values = c.read.values; regions = c.read.regions; classes = c.classes; rules = c.rules }

pub demand_3 : Demand3
demand_3 f e =
    let A = accepted_program f (checked_is f e) in
    let S = safe A in
    record {
      safe = S;
      taken = taken A;
      clean = clean A;
      undone = goes_back (program f) (checked_is f e).read.conditions;
      still_spent = spent_more (program f);
      prints = Lock.prints (program f) S;
      each = Lock.each (program f) S;
      both = Lock.both (program f) S;
      ended = Lock.ended (program f) S;
      plain_ended = Lock.plain_ended (program f) S;
      both_stay = Lock.both_stay (program f) S;
      same_sum = Lock.same_sum (program f) S;
      plain_sum = Lock.plain_sum (program f) S;
      stays = Lock.stays (program f) S;
      plain_stays = Lock.plain_stays (program f) S;
    }

-- ---- an annotated file
-- its calls are the input's: striking out gives the same of both
reached_again : (P : Program) → reached_ok (annotate P) ≡ reached_ok P
reached_again P = sym (stripped_reached (annotate P)) ∙ ap reached_ok (strip_annotate P) ∙ stripped_reached P

-- creates and removes may stand in conditions too
conditions_again : (P : Program) → conditions_ok (annotate P) ≡ conditions_ok P
conditions_again P = sym (stripped_conditions (annotate P)) ∙ ap conditions_ok (strip_annotate P) ∙ stripped_conditions P

-- the annotation of a program passes every stage of the checker
annotation_checked : (P : Program) → Annotatable P → conditions_ok P ≡ true → reached_ok P ≡ true → size (program_tree (annotate P)) ≤ 4096 → Checked (file_of (annotate P))
unfolding file_of
annotation_checked P A k h l =
    let e = program_written (annotate P) in
    record {
      read = record {
        header = header_of_program (annotate P) l;
        form = form_of_program (annotate P);
        conditions = rw e (conditions_again P ∙ k);
        typing = rw e (typed_again P A);
        values = rw e (values_again P A);
        regions = rw e (regions_again P A);
      };
      reached = rw e (reached_again P ∙ h);
      classes = rw e (classes_again P A);
      rules = rw e (accepted_again P A);
    }

pub written_accepted : Written
unfolding annotated annotator_stages room_ok
written_accepted f lent g e =
    let w = writes_passed (lowest (annotator_stages f lent)) (file_of (annotate (program f))) g e in
    let p = passed_reached f _ (lowest_passed (annotator_stages f lent) w.0) in
    let c = and_true p.2.1.0 in
    let l = leb-true (size (program_tree (annotate (program f)))) 4096 (and_true p.2.1.1.0).0 in
    rw (← w.1)
    (is_checked (file_of (annotate (program f)))
    (annotation_checked (program f)
    (record { typing = p.0.typing; values = p.0.values; regions = p.0.regions; classes = c.0; calls = c.1 }) p.0.conditions p.1 l))
