-- The stages of every program up to a number, and what a stage's answer says of them.
use Rattle.std.specs.Prelude.{ℕ, ◌≡◌, Bool, true, false, List, [], ◌∷◌, ◌++◌, Result, Ok, Err, IsErrAnd}
use Rattle.std.proofs.Math.Path.{refl, sym, ap}
use Rattle.std.proofs.Common.{◌∙◌}
use Rattle.std.proofs.lemmas.Bool.{false≢true}
use Rattle.std.proofs.lemmas.Result.{err_from_is_err_and}
use Rattle.language.specs.declared.Refusal.{Refusal}
use Rattle.language.specs.declared.Refusal.TheVariants.{Form, Typing, Values, Regions, Unreached, Classes}
use Rattle.language.specs.Conditions.{conditions_ok}
use Rattle.language.specs.Typing.{typing_ok}
use Rattle.language.specs.Values.{values_ok}
use Rattle.language.specs.Regions.{regions_ok}
use Rattle.language.specs.CallChains.{reached_ok}
use Rattle.language.specs.Lifetimes.{declared_classes_ok}
use Rattle.language.specs.Answers.{Stage, stage, lowest, program}
use Rattle.records.specs.Verdicts.{form_stages, form_verdict, after, lowest_append}
use Rattle.chains.specs.Formed.{Formed, formed}

module _ (f : List ℕ) where
  -- numbers 1 and 2
  abbrev pub shape_stages : List Stage
  shape_stages = form_stages f ++ (stage Form (conditions_ok (program f)) ∷ [])

  -- numbers 1 to 3
  abbrev pub typing_stages : List Stage
  typing_stages = shape_stages ++ (stage Typing (typing_ok (program f)) ∷ [])

  -- numbers 5 and 17
  abbrev pub region_stages : List Stage
  region_stages = stage Regions (regions_ok (program f)) ∷ stage Unreached (reached_ok (program f)) ∷ []

  -- numbers 4, 5 and 17, and 7's part for every program
  abbrev pub table_stages : List Stage
  table_stages = stage Values (values_ok (program f)) ∷ region_stages ++ (stage Classes (declared_classes_ok (program f)) ∷ [])

-- ---- what `?` hands on is the refusal that it met
pub handed_on : {T : Type 0} (r : Result T Refusal) {q : Refusal} → IsErrAnd r (λ (x : Refusal). x ≡ q) → r ≡ Err q
handed_on r h = let p = err_from_is_err_and r h in rw (p.1, p.2) refl

-- ---- one stage more
both : (q : Refusal) (w : Result Unit Refusal) (c : Bool) → after w (lowest (stage q c ∷ [])) ≡ Ok tt → (w ≡ Ok tt) × (c ≡ true)
unfolding after lowest
both q (Err r) c h = absurd (false≢true cc)
both q (Ok _) true h = (refl, refl)
both q (Ok _) false h = absurd (false≢true cc)

module _ (ss : List Stage) where
  -- a refusal is passed up
  pub passed_up : (q : Refusal) (b : Bool) {v : Result Unit Refusal} {r : Refusal} → v ≡ lowest ss → v ≡ Err r → v ≡ lowest (ss ++ (stage q b ∷ []))
  unfolding after
  passed_up q b e g = g ∙ sym (lowest_append ss (stage q b ∷ []) ∙ ap (λ (w : Result Unit Refusal). after w (lowest (stage q b ∷ []))) (sym e ∙ g))

  -- all before were passed, and this one decides
  pub decides : (q : Refusal) (b : Bool) {v : Result Unit Refusal} → v ≡ lowest ss → v ≡ Ok tt → lowest (ss ++ (stage q b ∷ [])) ≡ lowest (stage q b ∷ [])
  unfolding after
  decides q b e g = lowest_append ss (stage q b ∷ []) ∙ ap (λ (w : Result Unit Refusal). after w (lowest (stage q b ∷ []))) (sym e ∙ g)

  pub refused_here : (q : Refusal) {b : Bool} {v : Result Unit Refusal} → v ≡ lowest ss → v ≡ Ok tt → b ≡ false → Err q ≡ lowest (ss ++ (stage q b ∷ []))
  unfolding lowest
  refused_here q e g z = sym (decides q _ e g ∙ ap (λ (c : Bool). lowest (stage q c ∷ [])) z)

  pub passed_here : (q : Refusal) {b : Bool} {v : Result Unit Refusal} → v ≡ lowest ss → v ≡ Ok tt → b ≡ true → Ok tt ≡ lowest (ss ++ (stage q b ∷ []))
  unfolding lowest
  passed_here q e g z = sym (decides q _ e g ∙ ap (λ (c : Bool). lowest (stage q c ∷ [])) z)

  -- both were passed
  pub passed_both : (q : Refusal) {b : Bool} {v : Result Unit Refusal} → v ≡ lowest (ss ++ (stage q b ∷ [])) → v ≡ Ok tt → (lowest ss ≡ Ok tt) × (b ≡ true)
  passed_both q {b} e g = both q (lowest ss) b (sym (lowest_append ss (stage q b ∷ [])) ∙ sym e ∙ g)

-- ---- what an accepting stage has found
module _ (f : List ℕ) where
  pub shape_found : {v : Result Unit Refusal} → v ≡ lowest (shape_stages f) → v ≡ Ok tt → Formed f × (conditions_ok (program f) ≡ true)
  unfolding form_verdict
  shape_found e g = let p = passed_both (form_stages f) Form e g in (formed refl p.0, p.1)

  pub typing_found : {v : Result Unit Refusal} → v ≡ lowest (typing_stages f) → v ≡ Ok tt → Formed f × (typing_ok (program f) ≡ true)
  typing_found e g = let p = passed_both (shape_stages f) Typing e g in ((shape_found refl p.0).0, p.1)

pub not_accepted : {A : Type 0} {r : Refusal} → ◌≡◌ {A = Result Unit Refusal} (Err r) (Ok tt) → A
not_accepted e = absurd cc
