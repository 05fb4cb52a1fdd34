-- The front part of the lent memory that is the annotated file; nothing after a refusal.
use Rattle.std.specs.Prelude.{ℕ, ◌≤◌, List, [], ◌≡◌, refl, length, take, drop, Ok, Err}
use Rattle.std.proofs.Common.{arith, length-append, take_at}
use Rattle.language.specs.declared.Refusal.{Refusal}
use Rattle.language.specs.Lists.{front_written}
use Rattle.language.specs.Answers.{AnnotatorAnswer, refuses, writes, annotator_memory}
use Rattle.annotation.specs.Answer.{told}

unfoldable pub front_of : AnnotatorAnswer → List ℕ
front_of (refuses r) = []
front_of (writes g) = g

pub front_refused : (a : AnnotatorAnswer) {k : Refusal} → Err k ≡ told a → [] ≡ front_of a
unfolding front_of told
front_refused (refuses r) e = refl
front_refused (writes g) e = let z : ◌≡◌ {A = ℕ} 0 1 = cc in absurd (omega arith)

-- it lies within the memory, and is its first n bytes
pub front_written_law : (a : AnnotatorAnswer) (before after : List ℕ) {n : ℕ} → Ok n ≡ told a → after ≡ annotator_memory a before
    → (n ≤ length after) × (take n after ≡ front_of a)
unfolding front_of told annotator_memory front_written
front_written_law (refuses r) before after e m = let z : ◌≡◌ {A = ℕ} 0 1 = cc in absurd (omega arith)
front_written_law (writes g) before after {n} e m =
    let l : n ≡ length g = cc in
    rw (m, l) (omega (arith, length-append g (drop (length g) before)), take_at g (drop (length g) before) (length g) refl)
