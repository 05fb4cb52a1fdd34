-- Numbers 4 to 7 as the annotator gives them: number 6 stands between 17 and 7, while the stages that all programs share have 4, 5, 17 and 7's part for
-- every program.
use Rattle.std.specs.Prelude.{ℕ, Bool, true, false, List, [], ◌∷◌, ◌≡◌, Result, Ok, Err}
use Rattle.std.proofs.Math.Path.{refl, sym, ap}
use Rattle.std.proofs.Common.{◌∙◌}
use Rattle.sets.specs.Tests.{◌&◌, and_true}
use Rattle.language.specs.declared.Refusal.{Refusal}
use Rattle.language.specs.declared.Refusal.TheVariants.{Header, Form, Typing, Values, Regions, Unreached, Annotated, Classes, Rules, Room}
use Rattle.language.specs.Lists.{choose}
use Rattle.language.specs.Typing.{typing_ok}
use Rattle.language.specs.Values.{values_ok}
use Rattle.language.specs.Regions.{regions_ok}
use Rattle.language.specs.CallChains.{reached_ok}
use Rattle.language.specs.Lifetimes.{declared_classes_ok, call_classes_ok}
use Rattle.language.specs.Annotation.{unannotated}
use Rattle.language.specs.Answers.{Stage, stage, lowest, program}
use Rattle.laws.specs.Stages.{lowest_passed}
use Rattle.placement.specs.Whole.{Annotatable}
use Rattle.stages.specs.Stages.{table_stages}

-- numbers 4 to 7, with 17 behind 5
abbrev pub mark_stages : List ℕ → List Stage
mark_stages f =
    stage Values (values_ok (program f)) ∷ stage Regions (regions_ok (program f)) ∷ stage Unreached (reached_ok (program f))
    ∷ stage Annotated (unannotated (program f)) ∷ stage Classes (declared_classes_ok (program f) & call_classes_ok (program f)) ∷ []

-- where 7 is refused, 6 is looked at first
unfoldable pub sooner : Bool → Refusal → Refusal
sooner u Header = Header
sooner u Form = Form
sooner u Typing = Typing
sooner u Values = Values
sooner u Regions = Regions
sooner u Unreached = Unreached
sooner u Annotated = Annotated
sooner u Classes = choose u Classes Annotated
sooner u Rules = Rules
sooner u Room = Room

-- what the shared stages answer, with number 6 and 7's part at calls
unfoldable with_marks : Bool → Bool → Result Unit Refusal → Result Unit Refusal
with_marks u k (Err r) = Err (sooner u r)
with_marks u k (Ok _) = lowest (stage Annotated u ∷ stage Classes k ∷ [])

with_marks_law : (v r w u d k : Bool)
    → lowest (stage Values v ∷ stage Regions r ∷ stage Unreached w ∷ stage Annotated u ∷ stage Classes (d & k) ∷ [])
    ≡ with_marks u k (lowest (stage Values v ∷ stage Regions r ∷ stage Unreached w ∷ stage Classes d ∷ []))
unfolding lowest with_marks sooner choose ◌&◌
with_marks_law false r w u d k = refl
with_marks_law true false w u d k = refl
with_marks_law true true false u d k = refl
with_marks_law true true true true true true = refl
with_marks_law true true true true true false = refl
with_marks_law true true true true false k = refl
with_marks_law true true true false true k = refl
with_marks_law true true true false false k = refl

-- ---- one law for each way through the stages
module _ (f : List ℕ) {v : Result Unit Refusal} (e : v ≡ lowest (table_stages f)) where
  marks : lowest (mark_stages f) ≡ with_marks (unannotated (program f)) (call_classes_ok (program f)) v
  marks = with_marks_law (values_ok (program f)) (regions_ok (program f)) (reached_ok (program f)) (unannotated (program f)) (declared_classes_ok (program f)) (call_classes_ok (program f))
      ∙ ap (with_marks (unannotated (program f)) (call_classes_ok (program f))) (sym e)

  pub refused_before : {r s : Refusal} → v ≡ Err r → s ≡ sooner (unannotated (program f)) r → Err s ≡ lowest (mark_stages f)
  unfolding with_marks
  refused_before g h = ap (λ (q : Refusal). Err q) h ∙ sym (marks ∙ ap (with_marks (unannotated (program f)) (call_classes_ok (program f))) g)

  module _ (g : v ≡ Ok tt) {u : Bool} (eu : u ≡ unannotated (program f)) where
    later : (k : Bool) → k ≡ call_classes_ok (program f) → lowest (mark_stages f) ≡ lowest (stage Annotated u ∷ stage Classes k ∷ [])
    unfolding with_marks
    later k ek = marks ∙ rw (g, eu, ek) refl

    pub annotated_refused : u ≡ false → Err Annotated ≡ lowest (mark_stages f)
    unfolding lowest
    annotated_refused p = sym (later (call_classes_ok (program f)) refl ∙ rw p refl)

    module _ (p : u ≡ true) {k : Bool} (ek : k ≡ call_classes_ok (program f)) where
      pub calls_refused : k ≡ false → Err Classes ≡ lowest (mark_stages f)
      unfolding lowest
      calls_refused q = sym (later k ek ∙ rw (p, q) refl)

      pub marks_passed : k ≡ true → Ok tt ≡ lowest (mark_stages f)
      unfolding lowest
      marks_passed q = sym (later k ek ∙ rw (p, q) refl)

-- number 6 or 7
module _ {u b : Bool} (e : b ≡ u) where
  pub seven : b ≡ true → Classes ≡ sooner u Classes
  unfolding sooner choose
  seven p = rw (sym e ∙ p) refl

  pub six : b ≡ false → Annotated ≡ sooner u Classes
  unfolding sooner choose
  six p = rw (sym e ∙ p) refl

-- every other number stays
pub others_stay : (u : Bool) (r : Refusal) → (r ≡ Classes → ⊥) → r ≡ sooner u r
unfolding sooner
others_stay u Header n = refl
others_stay u Form n = refl
others_stay u Typing n = refl
others_stay u Values n = refl
others_stay u Regions n = refl
others_stay u Unreached n = refl
others_stay u Annotated n = refl
others_stay u Classes n = absurd (n refl)
others_stay u Rules n = refl
others_stay u Room n = refl

-- ---- what the stages have found
pub marks_found : (f : List ℕ) {v : Result Unit Refusal} → typing_ok (program f) ≡ true → v ≡ lowest (mark_stages f) → v ≡ Ok tt → Annotatable (program f)
marks_found f t e g =
    let p = lowest_passed (mark_stages f) (sym e ∙ g) in
    let c = and_true p.1.1.1.1.0 in
    record { typing = t; values = p.0; regions = p.1.0; classes = c.0; calls = c.1 }
