-- Whole programs: whatever the annotator writes, the checker accepts.
use Rattle.std.specs.Prelude.{ℕ, ◌≡◌, true, List}
use Rattle.std.proofs.Common.{sym, ap, ◌∙◌}
use Rattle.sets.specs.Tests.{and_true, true_and}
use Rattle.sets.specs.Sets.{subset, Small, eq_same}
use Rattle.sets.specs.MemberLaws.{small_set_of}
use Rattle.sets.specs.declared.Set.{Set}
use Rattle.language.specs.Lists.{among}
use Rattle.language.specs.Program.{Functor, Goals, ◌before◌, Signature, Program, procedure_at, signature_of}
use Rattle.language.specs.Typing.{types_ok, functors_for, procedure_ok, typing_ok}
use Rattle.language.specs.Values.{ins_of, outs_of, values_ok}
use Rattle.language.specs.Regions.{regions_ok}
use Rattle.language.specs.Lifetimes.{start_held, wanted, classes_ok, live, declared_classes_ok, call_classes_ok}
use Rattle.language.specs.Annotation.{place_goals, annotate_procedure, annotate}
use Rattle.language.specs.Checking.{Carried, check_goals, end_rules, procedure_rules, rules_ok}
use Rattle.laws.specs.Lists.{nth_all}
use Rattle.region_graph.specs.Laws.{Declared}
use Rattle.region_graph.specs.Typed.{functors_some, no_procedure, types_typed, signature_typed, goals_typed, procedure_valued, goals_regioned, signature_classed, goals_classed}
use Rattle.region_graph.specs.Procedure.{declared_all}
use Rattle.region_graph.specs.Calls.{called}
use Rattle.placement.specs.Alike.{alike_annotated, alike_goals_ok, alike_check_goals}
use Rattle.placement.specs.Marks.{all_annotated, annotated_values, annotated_regions, annotated_classes}
use Rattle.placement.specs.Given.{start_live}
use Rattle.placement.specs.Wanted.{Within, start_within, start_wanted, end_wanted}
use Rattle.placement.specs.Effects.{Home}
use Rattle.placement.specs.Fits.{GoalsFit, fits}
use Rattle.placement.specs.Held.{goals_held}
use Rattle.placement.specs.Local.{removes_to, local_goals, placed_local}
use Rattle.placement.specs.Typed.{placed_typed}
use Rattle.placement.specs.Passes.{Passes}
use Rattle.placement.specs.Accept.{placed_passes}

-- a program that the annotator does not refuse; that it has no creates and removes is not needed
pub record Annotatable (P : Program) : Type 0 where
  pub typing : typing_ok P ≡ true
  pub values : values_ok P ≡ true
  pub regions : regions_ok P ≡ true
  pub classes : declared_classes_ok P ≡ true
  pub calls : call_classes_ok P ≡ true

small_outs : (S : Signature) → Small (outs_of S)
unfolding outs_of
small_outs S = small_set_of _

-- the end of a procedure
finish : (T : List (List Functor)) (S : Signature) (c d : Carried) → Declared T S → classes_ok S ≡ true → c ≡ d
    → Passes (outs_of S) (wanted S (outs_of S)) d → end_rules S c ≡ true
unfolding end_rules
finish T S c d D K e W = rw (e, W.is) (true_and (eq_same _ _ (end_wanted T S D K)) W.covers)

module _ (P : Program) (A : Annotatable P) where
  -- ---- one procedure; the one that is not there passes all too
  module _ (p : ℕ) where
    -- what it declares, its goals, and what is live after them
    abbrev S : Signature
    S = signature_of P p

    abbrev goals : Goals
    goals = (procedure_at P p).body

    abbrev outs : Set
    outs = outs_of (signature_of P p)

    procedure_declared : Declared P.types S
    procedure_declared = declared_all P A.typing p

    pub procedure_classes_law : classes_ok S ≡ true
    procedure_classes_law = signature_classed P A.classes p

    pub procedure_home : Home P S
    unfolding functors_for
    procedure_home = record {
      declared = procedure_declared;
      called = λ q ys. called P p q ys A.typing;
      classes = signature_classed P A.classes;
      functors = functors_some P.types S (signature_typed P A.typing p) (types_typed P A.typing);
    }

    pub procedure_fits : GoalsFit P S goals outs
    procedure_fits =
        fits P S procedure_home goals outs (goals_typed P A.typing p) (goals_regioned P A.regions p) (goals_classed P A.calls p)

    -- live at its start are in variables, and what is wanted there is held
    pub procedure_live : subset (live P goals outs) (ins_of S) ≡ true
    unfolding signature_of
    procedure_live = start_live P (procedure_at P p) (procedure_valued P A.values p)

    pub procedure_start : subset (wanted S (live P goals outs)) (start_held S) ≡ true
    procedure_start = start_wanted P.types S procedure_declared procedure_classes_law _ procedure_live

    pub procedure_within : Within S (start_held S)
    procedure_within = start_within P.types S procedure_declared procedure_classes_law

    -- its annotation ends with exactly what is wanted there, and can be made from the live sets alone
    pub procedure_held : (place_goals P S goals outs (start_held S)).held ≡ wanted S outs
    procedure_held = goals_held P S procedure_fits (start_held S) procedure_start

    pub procedure_local : (place_goals P S goals outs (start_held S)).goals
        ≡ removes_to S (start_held S) (live P goals outs) before local_goals P S goals outs
    procedure_local = placed_local P S procedure_fits (start_held S) procedure_start

    pub procedure_passes : Passes outs (wanted S outs) (check_goals P S (place_goals P S goals outs (start_held S)).goals (start_held S) (ins_of S))
    procedure_passes =
        placed_passes P S procedure_declared procedure_fits _ _ (small_outs S) procedure_start procedure_within procedure_live

    procedure_rules_law : procedure_rules (annotate P) (annotate_procedure P (procedure_at P p)) ≡ true
    unfolding procedure_rules annotate_procedure signature_of
    procedure_rules_law =
        finish P.types S _ _ procedure_declared procedure_classes_law
        (sym (alike_check_goals P (annotate P) (alike_annotated P) _ S _ _)) procedure_passes

    procedure_typed : procedure_ok (annotate P) (annotate_procedure P (procedure_at P p)) ≡ true
    unfolding procedure_ok annotate_procedure annotate signature_of
    procedure_typed =
        true_and (signature_typed P A.typing p)
        (sym (alike_goals_ok P (annotate P) (alike_annotated P) _ S)
        ∙ placed_typed P S procedure_declared procedure_fits _ procedure_start procedure_within ∙ goals_typed P A.typing p)

  -- ---- THE THEOREMS
  -- whatever the annotator writes, the checker accepts
  pub accepted_again : rules_ok (annotate P) ≡ true
  unfolding rules_ok procedure_at
  accepted_again =
      all_annotated P (procedure_rules (annotate P))
      ∙ nth_all (λ p. procedure_rules (annotate P) (annotate_procedure P p)) no_procedure P.procedures (λ n h. procedure_rules_law n)

  -- and it passes numbers 3, 4, 5 and the declared part of 7
  pub typed_again : typing_ok (annotate P) ≡ true
  unfolding typing_ok procedure_at
  typed_again =
      let t = and_true A.typing in
      true_and (ap types_ok (sym (alike_annotated P).types) ∙ t.0)
      (true_and (ap (among 256) (sym (alike_annotated P).count) ∙ (and_true t.1).0)
      (all_annotated P (procedure_ok (annotate P))
      ∙ nth_all (λ p. procedure_ok (annotate P) (annotate_procedure P p)) no_procedure P.procedures (λ n h. procedure_typed n)))

  pub values_again : values_ok (annotate P) ≡ true
  values_again = annotated_values P ∙ A.values

  pub regions_again : regions_ok (annotate P) ≡ true
  regions_again = annotated_regions P ∙ A.regions

  pub classes_again : declared_classes_ok (annotate P) ≡ true
  classes_again = annotated_classes P ∙ A.classes
