-- From what `annotate`, `check` and `run` promise to the numbers that cross the boundary.
use Rattle.std.specs.Prelude.{ℕ, List, refl, Result, Ok, Err}
use Rattle.std.proofs.Common.{arith, sym, ◌∙◌}
use Rattle.std.proofs.Math.Path.{◌≡◌, ap}
use Rattle.language.specs.declared.Refusal.{Refusal}
use Rattle.language.specs.Answers.{refusal_number, checker_number, AnnotatorAnswer, refuses, writes, annotator_number, written_bytes, annotator_memory}
use Rattle.annotation.specs.Answer.{told, Annotates}

-- release 4.2.0: 10,000 a major release, 100 a minor one, 1 a patch
abbrev pub version : ℕ
version = 40200

-- ---- from what the functions below promise to the numbers
module _ {n : ℕ} {q : Refusal} (k : n ≡ refusal_number q) where
  pub annotator_refuses : (a : AnnotatorAnswer) (before : List ℕ) {after : List ℕ} {r : Result ℕ Refusal} → Annotates a before after r → r ≡ Err q
      → (n ≡ annotator_number a) × ((after ≡ annotator_memory a before) × (0 ≡ written_bytes a))
  unfolding told annotator_number written_bytes
  annotator_refuses (refuses p) before h e = (let s : q ≡ p = cc in k ∙ ap refusal_number s, (h.1, refl))
  annotator_refuses (writes g) before h e = let z : ◌≡◌ {A = ℕ} 0 1 = cc in absurd (omega arith)

  pub checker_refuses : {v w : Result Unit Refusal} → v ≡ w → v ≡ Err q → n ≡ checker_number w
  unfolding checker_number
  checker_refuses e g = k ∙ ap checker_number (sym g ∙ e)

pub annotator_writes : (a : AnnotatorAnswer) (before : List ℕ) {after : List ℕ} {r : Result ℕ Refusal} {m : ℕ} → Annotates a before after r → r ≡ Ok m
    → (0 ≡ annotator_number a) × ((after ≡ annotator_memory a before) × (m ≡ written_bytes a))
unfolding told annotator_number written_bytes
annotator_writes (refuses p) before h e = let z : ◌≡◌ {A = ℕ} 0 1 = cc in absurd (omega arith)
annotator_writes (writes g) before h e = (refl, (h.1, (cc)))

pub checker_accepts : {v w : Result Unit Refusal} → v ≡ w → v ≡ Ok tt → 0 ≡ checker_number w
unfolding checker_number
checker_accepts e g = ap checker_number (sym g ∙ e)
