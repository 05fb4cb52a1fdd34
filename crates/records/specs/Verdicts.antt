-- Numbers 1 and 2 as a stage: the front part of every program's stages. Assumes nothing.
use Rattle.std.specs.Prelude.{ℕ, ◌≡◌, refl, Bool, List, [], ◌∷◌, ◌++◌, Result, Ok, Err}
use Rattle.std.proofs.Math.Bool.{true, false}
use Rattle.language.specs.declared.Refusal.{Refusal}
use Rattle.language.specs.declared.Refusal.TheVariants.{Header, Form}
use Rattle.language.specs.File.{word, record_count, header_ok, form_ok}
use Rattle.language.specs.Answers.{Stage, stage, lowest}

-- numbers 1 and 2
unfoldable pub form_stages : List ℕ → List Stage
form_stages f = stage Header (header_ok f) ∷ stage Form (form_ok (word f) (record_count f)) ∷ []

unfoldable pub form_verdict : List ℕ → Result Unit Refusal
form_verdict f = lowest (form_stages f)

-- ---- stages in turn: a refusal is passed up, else the later stages decide
unfoldable pub after : Result Unit Refusal → Result Unit Refusal → Result Unit Refusal
after (Err r) v = Err r
after (Ok _) v = v

pub lowest_append : (ss ts : List Stage) → lowest (ss ++ ts) ≡ after (lowest ss) (lowest ts)
unfolding lowest after
lowest_append [] ts = refl
lowest_append (stage r true ∷ ss) ts = lowest_append ss ts
lowest_append (stage r false ∷ ss) ts = refl

module _ (f : List ℕ) where
  -- accepted is both tests passed
  pub form_in : form_verdict f ≡ Ok tt → (header_ok f ≡ true) × (form_ok (word f) (record_count f) ≡ true)
  unfolding form_verdict form_stages lowest
  form_in e = go (header_ok f) (form_ok (word f) (record_count f)) e
    where
      go : (a b : Bool) → lowest (stage Header a ∷ stage Form b ∷ []) ≡ Ok tt → (a ≡ true) × (b ≡ true)
      go true true e = (refl, refl)
      go true false e = (refl, cc)
      go false b e = (cc, cc)
