-- Laws of `specs/Answer` that only proofs cite.
use Rattle.std.specs.Prelude.{Result, Ok, Err}
use Prim.Native.Nat.{ℕ}
use mathlib.Core.List.{List, ◌++◌}
use mathlib.Core.Path.{◌≡◌, refl, sym, ap, ◌∙◌}
use Rattle.language.specs.declared.Refusal.{Refusal}
use Rattle.language.specs.Answers.{lowest, file_stages, reached_stages, checker_stages, checker_number, checked}
use Rattle.records.specs.Verdicts.{form_stages, after, lowest_append}
use Rattle.stages.specs.Stages.{typing_stages}
use Rattle.checking.specs.Answer.{rule_stages}

all_stages : (f : List ℕ) → typing_stages f ++ rule_stages f ≡ checker_stages f
unfolding checker_stages reached_stages file_stages form_stages
all_stages f = refl

checked_by : (f : List ℕ) → checked f ≡ after (lowest (typing_stages f)) (lowest (rule_stages f))
unfolding checked
checked_by f = ap lowest (sym (all_stages f)) ∙ lowest_append (typing_stages f) (rule_stages f)

-- the answer, with its number
abbrev pub Checks : List ℕ → Result Unit Refusal → Type 0
Checks f v = (v ≡ checked f) × (checker_number v ≡ checker_number (checked f))

numbered : (f : List ℕ) {v : Result Unit Refusal} → v ≡ checked f → Checks f v
numbered f e = (e, ap checker_number e)

module _ (f : List ℕ) {v : Result Unit Refusal} (e : v ≡ lowest (typing_stages f)) where
  pub checker_refuses : {r : Refusal} → v ≡ Err r → Checks f v
  unfolding after
  checker_refuses g = numbered f (g ∙ sym (checked_by f ∙ ap (λ (w : Result Unit Refusal). after w (lowest (rule_stages f))) (sym e ∙ g)))

  pub checker_goes : {w : Result Unit Refusal} → v ≡ Ok tt → w ≡ lowest (rule_stages f) → Checks f w
  unfolding after
  checker_goes g h = numbered f (h ∙ sym (checked_by f ∙ ap (λ (u : Result Unit Refusal). after u (lowest (rule_stages f))) (sym e ∙ g)))
