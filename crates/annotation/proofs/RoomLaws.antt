-- Number 9, and what is handed back where the room is there.
use Rattle.std.specs.Prelude.{ℕ, ◌*◌, ◌≤◌, ◌<◌, true, ◌≡◌, leb, length, Ok}
use native.Mathlib.Omega.{arith}
use Rattle.std.proofs.Math.Decide.{dec_lt}
use mathlib.Core.List.{List}
use Rattle.std.proofs.Math.Path.{refl, ap}
use Rattle.std.proofs.Common.{◌∙◌}
use borrow.Author.Tests.{le-leb, lt-leb}
use Rattle.sets.specs.Tests.{◌&◌}
use Rattle.language.specs.declared.Refusal.TheVariants.{Room}
use Rattle.language.specs.Lists.{front_written}
use Rattle.language.specs.Format.{max_records, record_bytes}
use Rattle.language.specs.Layout.{size}
use Rattle.language.specs.Program.{Program}
use Rattle.language.specs.Records.{program_tree}
use Rattle.language.specs.Annotation.{annotate}
use Rattle.language.specs.Answers.{lowest, program, file_of, room_ok, refuses, writes, annotator_number, writes_unless, annotator_memory}
use Rattle.chains.specs.Layout.{length_of_program}
use Rattle.annotation.specs.Answer.{told, answer_number, Annotates, RoomIn, room_answer}

-- ---- number 9: n is the annotated file's size in records, or more than 4,096 where that is
module _ (f : List ℕ) (lent : ℕ) (n : ℕ) (small : size (program_tree (annotate (program f))) ≤ max_records → n ≡ size (program_tree (annotate (program f))))
    (large : max_records < size (program_tree (annotate (program f))) → max_records < n) where
  abbrev P : Program
  P = annotate (program f)

  bytes : length (file_of P) ≡ record_bytes * size (program_tree P)
  unfolding file_of
  bytes = length_of_program P

  pub too_large : max_records < n → room_answer f lent ≡ refuses Room
  unfolding room_ok lowest writes_unless ◌&◌
  too_large l =
      elim (dec_lt max_records (size (program_tree P))) [
        | yes h ↦ rw (lt-leb (size (program_tree P)) max_records h) refl
        | no h ↦ (let e = small (omega arith) in absurd (omega arith))
      ]

  module _ (l : n ≤ max_records) where
    pub sized : n ≡ size (program_tree P)
    sized =
        elim (dec_lt max_records (size (program_tree P))) [
          | yes h ↦ (let e = large h in absurd (omega arith))
          | no h ↦ small (omega arith)
        ]

    fits : leb (size (program_tree P)) max_records ≡ true
    fits = le-leb (size (program_tree P)) max_records (let e = sized in omega arith)

    pub too_long : {room : ℕ} → RoomIn room lent → room < record_bytes * n → room_answer f lent ≡ refuses Room
    unfolding room_ok lowest writes_unless ◌&◌
    too_long R k =
        let e = R.1 (omega arith) in
        let h : lent < record_bytes * n = omega arith in
        rw (fits, lt-leb (length (file_of P)) lent (let e = sized in omega (arith, bytes))) refl

    pub room_there : record_bytes * n ≤ lent → room_answer f lent ≡ writes (file_of P)
    unfolding room_ok lowest writes_unless ◌&◌
    room_there h = rw (fits, le-leb (length (file_of P)) lent (let e = sized in omega (arith, bytes))) refl

    pub file_told : (before : List ℕ) {front after : List ℕ} → record_bytes * n ≤ lent → front ≡ file_of P → after ≡ front_written front before
        → Annotates (room_answer f lent) before after (Ok (record_bytes * n))
    unfolding told annotator_memory answer_number annotator_number
    file_told before h p e = rw (room_there h) (ap (λ (k : ℕ). Ok k) (let q = sized in omega (arith, bytes)), e ∙ ap (λ (g : List ℕ). front_written g before) p, refl)
