-- How many words a run of the pack is lent at most, and how many bytes a file has: CELLS, REGIONS, FRAMES, PRINTS and FILE_BYTES of src/main.rt.
use Rattle.std.specs.Prelude.{ℕ, ◌*◌, ◌≤◌, List, length}
use Rattle.language.specs.Format.{record_bytes}
use Rattle.std.proofs.Common.{arith}
use Rattle.word_machine.specs.Printing.{same_words}
use Rattle.machine.specs.declared.Outcome.{Outcome}
use Rattle.machine.specs.Joining.{RanAs, as_printed}

abbrev pub cells_lent : ℕ
cells_lent = 160

abbrev pub regions_lent : ℕ
regions_lent = 16

abbrev pub frames_lent : ℕ
frames_lent = 1000

abbrev pub prints_lent : ℕ
prints_lent = 16

abbrev pub file_bytes : ℕ
file_bytes = 64 * record_bytes

-- the numbers printed stand within the words lent for them
pub printed_within : {f m rs fw ps px : List ℕ} {l : ℕ} {r : Outcome} → RanAs f m rs fw ps l r px → r.printed ≤ length px
printed_within {f} {m} {rs} {fw} {ps} {l = l} h = let p = as_printed f m rs fw ps l h in omega (arith, same_words p, p.room)
