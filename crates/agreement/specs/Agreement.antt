-- Demand 3 about the code. `annotate` promises `Annotates`, `check` promises its answer equal to `checked`: from these two promises, for whatever file
-- and memory, the checker accepts the bytes that the annotator leaves, and the run of that file has the five properties (`Sound` of `soundness`).
use Rattle.std.specs.Prelude.{ℕ, ◌≤◌, List, ◌≡◌, length, take, Result, Ok}
use Rattle.std.proofs.Common.{arith, sym, ◌∙◌}
use Rattle.std.proofs.Math.Path.{refl, ap}
use Rattle.language.specs.declared.Refusal.{Refusal}
use Rattle.language.specs.Answers.{AnnotatorAnswer, refuses, writes, annotated, annotator_memory, checked}
use Rattle.soundness.specs.Statement.{Sound}
use Rattle.soundness.proofs.Demand3.{demand_3, written_accepted}
use Rattle.annotation.specs.Answer.{told, Annotates}
use Rattle.annotation.specs.Front.{front_of, front_written_law}

-- the bytes that are left for this answer: how many they are, that the checker accepts them, and that their run is sound
pub record Left (g memory : List ℕ) : Type 0 where
  pub front : take (length g) memory ≡ g
  pub accepted : checked g ≡ Ok tt
  pub sound : Sound g

abbrev pub LeavesSound : AnnotatorAnswer → List ℕ → Type 0
LeavesSound a memory = (g : List ℕ) → a ≡ writes g → Left g memory

-- ---- the theorem, over what the two functions promise
by_answer : (f : List ℕ) (lent : ℕ) (before : List ℕ) {after : List ℕ} {r : Result ℕ Refusal} {n : ℕ} {v : Result Unit Refusal} (a : AnnotatorAnswer) → annotated f lent ≡ a
    → Annotates a before after r → r ≡ Ok n → v ≡ checked (take n after) → v ≡ Ok tt
unfolding told front_of
by_answer f lent before (refuses q) p h w e = let z : ◌≡◌ {A = ℕ} 0 1 = cc in absurd (omega arith)
by_answer f lent before {after} (writes g) p h w e =
    let k = front_written_law (writes g) before after (sym w ∙ h.0) h.1 in
    e ∙ ap checked k.1 ∙ written_accepted f lent g p

module _ (f before : List ℕ) {after : List ℕ} {r : Result ℕ Refusal} (h : Annotates (annotated f (length before)) before after r) where
  pub leaves_sound : LeavesSound (annotated f (length before)) after
  unfolding told front_of
  leaves_sound g e =
      let k = front_written_law (writes g) before after refl (h.1 ∙ ap (λ (a : AnnotatorAnswer). annotator_memory a before) e) in
      let c = written_accepted f (length before) g e in
      record { front = k.1; accepted = c; sound = demand_3 g c }

  -- whatever n bytes `annotate` says that it has written, `check` accepts them
  pub check_accepts : {n : ℕ} {v : Result Unit Refusal} → r ≡ Ok n → v ≡ checked (take n after) → v ≡ Ok tt
  check_accepts w e = by_answer f (length before) before (annotated f (length before)) refl h w e

  -- they lie within the memory
  pub written_within : {n : ℕ} → r ≡ Ok n → n ≤ length after
  written_within w = (front_written_law (annotated f (length before)) before after (sym w ∙ h.0) h.1).0
