-- What the annotator writes, from its answer: the annotated file as it stands in the lent memory, or the line of the refusal.
use Rattle.std.specs.Prelude.{ℕ, ◌≤◌, List, ◌≡◌, length, Result, Ok, Err}
use Rattle.std.proofs.Common.{arith, sym, ap, ◌∙◌}
use Rattle.language.specs.declared.Refusal.{Refusal}
use Rattle.language.specs.Answers.{AnnotatorAnswer, refuses, writes, annotated, annotator_memory, annotator_bytes}
use Rattle.language.specs.Output.{refusal_line, annotator_output}
use Rattle.lines.specs.Widths.{refusal_bytes}
use Rattle.lines.specs.Put.{Put, Front, put_front}
use Rattle.lines.specs.Answers.{refusal_length}
use Rattle.annotation.specs.Answer.{told, Annotates}
use Rattle.annotation.specs.Front.{front_of, front_written_law}

pub file_out : (a : AnnotatorAnswer) (before : List ℕ) {after : List ℕ} {r : Result ℕ Refusal} {n : ℕ} → Annotates a before after r → r ≡ Ok n
    → Front (annotator_output a) before after n
unfolding annotator_output told annotator_memory front_of
file_out (refuses r) before h e = let z : ◌≡◌ {A = ℕ} 0 1 = cc in absurd (omega arith)
file_out (writes g) before {after} {r} {n} h e =
    let k : n ≡ length g = cc in
    let w = front_written_law (writes g) before after (sym e ∙ h.0) h.1 in
    record { memory = h.1; front = w.1; counted = k ∙ sym (ap length w.1); fits = w.0 }

pub line_out : (a : AnnotatorAnswer) (before : List ℕ) {m after : List ℕ} {r : Result ℕ Refusal} {q : Refusal} {n : ℕ} → Annotates a before m r → r ≡ Err q
    → refusal_bytes ≤ length before → Put m 0 (refusal_line q) after n → Front (annotator_output a) before after n
unfolding annotator_output told annotator_memory
line_out (writes g) before h e l p = let z : ◌≡◌ {A = ℕ} 0 1 = cc in absurd (omega arith)
line_out (refuses r) before {m} {after} {q = q} {n} h e l p =
    let k : q ≡ r = cc in
    put_front (rw (h.1, k) at p) (omega (arith, refusal_length r))

-- with the bytes that the program lends
module _ (f before : List ℕ) {m : List ℕ} {r : Result ℕ Refusal} (l : length before ≡ annotator_bytes) (h : Annotates (annotated f (length before)) before m r) where
  lends : Annotates (annotated f annotator_bytes) before m r
  lends = rw l at h

  pub writes_file : {n : ℕ} → r ≡ Ok n → Front (annotator_output (annotated f annotator_bytes)) before m n
  writes_file e = file_out (annotated f annotator_bytes) before lends e

  pub writes_line : {after : List ℕ} {q : Refusal} {n : ℕ} → r ≡ Err q → Put m 0 (refusal_line q) after n
      → Front (annotator_output (annotated f annotator_bytes)) before after n
  writes_line e p = line_out (annotated f annotator_bytes) before lends e (omega (arith, l)) p
