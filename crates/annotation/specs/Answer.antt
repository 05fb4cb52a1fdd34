-- The annotator's answer as code gives it, and its stages in turn.
use Rattle.std.specs.Prelude.{ℕ, ◌≤◌, ◌<◌, ◌≡◌, length, Result, Ok, Err}
use mathlib.Core.List.{List, [], ◌∷◌, ◌++◌}
use Rattle.std.proofs.Math.Path.{refl, ap}
use Rattle.std.proofs.Common.{sym, ◌∙◌}
use Rattle.language.specs.declared.Refusal.{Refusal}
use Rattle.language.specs.declared.Refusal.TheVariants.{Room}
use Rattle.language.specs.Format.{max_bytes}
use Rattle.language.specs.Annotation.{annotate}
use Rattle.language.specs.Answers.{refusal_number, Stage, stage, lowest, program, file_of, room_ok, file_stages, reached_stages, annotator_stages, AnnotatorAnswer, refuses, writes, annotator_number, writes_unless, annotated, annotator_memory}
use Rattle.records.specs.Verdicts.{form_stages, after, lowest_append}
use Rattle.stages.specs.Stages.{typing_stages}
use Rattle.annotation.specs.Stages.{mark_stages}

-- "handed back as the front part of the caller's output memory": how many bytes that are
unfoldable pub told : AnnotatorAnswer → Result ℕ Refusal
told (refuses r) = Err r
told (writes g) = Ok (length g)

-- the table's number, 0 where the file is written
unfoldable pub answer_number : Result ℕ Refusal → ℕ
answer_number (Err r) = refusal_number r
answer_number (Ok n) = 0

-- the answer, the lent memory afterwards, and the answer's number
abbrev pub Annotates : AnnotatorAnswer → List ℕ → List ℕ → Result ℕ Refusal → Type 0
Annotates a before after r = (r ≡ told a) × (after ≡ annotator_memory a before) × (answer_number r ≡ annotator_number a)

-- how many of the lent bytes may be written: all of them, or as many as the longest file has
abbrev pub RoomIn : ℕ → ℕ → Type 0
RoomIn room lent = (room ≤ lent) × (room < max_bytes → room ≡ lent)

-- ---- stages in turn
module _ (f : List ℕ) (lent : ℕ) where
  -- number 9
  abbrev pub room_stages : List Stage
  room_stages = stage Room (room_ok (annotate (program f)) lent) ∷ []

  -- the answer once numbers 1 to 7 are passed, once 1 to 3 are
  abbrev pub room_answer : AnnotatorAnswer
  room_answer = writes_unless (lowest room_stages) (file_of (annotate (program f)))

  abbrev pub typed_answer : AnnotatorAnswer
  typed_answer = writes_unless (lowest (mark_stages f ++ room_stages)) (file_of (annotate (program f)))

  pub all_stages : writes_unless (lowest (typing_stages f ++ (mark_stages f ++ room_stages))) (file_of (annotate (program f))) ≡ annotated f lent
  unfolding annotated annotator_stages reached_stages file_stages form_stages
  all_stages = refl

module _ (ss ts : List Stage) (g : List ℕ) {v : Result Unit Refusal} (e : v ≡ lowest ss) where
  later : writes_unless (lowest (ss ++ ts)) g ≡ writes_unless (after v (lowest ts)) g
  later = ap (λ (w : Result Unit Refusal). writes_unless w g) (lowest_append ss ts ∙ ap (λ (w : Result Unit Refusal). after w (lowest ts)) (sym e))

  pub stage_refuses : {r : Refusal} → v ≡ Err r → writes_unless (lowest (ss ++ ts)) g ≡ refuses r
  unfolding writes_unless after
  stage_refuses p = later ∙ rw p refl

  pub stage_goes : v ≡ Ok tt → writes_unless (lowest (ss ++ ts)) g ≡ writes_unless (lowest ts) g
  unfolding after
  stage_goes p = later ∙ rw p refl

-- ---- a refusal leaves the memory as it was
pub refusal_told : {a : AnnotatorAnswer} {r : Refusal} (m : List ℕ) → a ≡ refuses r → Annotates a m m (Err r)
unfolding told annotator_memory answer_number annotator_number
refusal_told m e = rw e (refl, refl, refl)

pub answer_moved : {a b : AnnotatorAnswer} (before : List ℕ) {after : List ℕ} {r : Result ℕ Refusal} → a ≡ b → Annotates b before after r → Annotates a before after r
answer_moved before e h = rw e h
