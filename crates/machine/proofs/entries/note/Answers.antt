use Rattle.std.proofs.Common.{arith}
use Rattle.machine.specs.Entries.{noted_in, noted_past}
use Rattle.machine.proofs.entries.note.Goals as goal

pub returns-then-count-ge-MAX_RECORDS : goal.returns-then-count-ge-MAX_RECORDS
returns-then-count-ge-MAX_RECORDS c = noted_past _ _ _ _ c.if-count-ge-MAX_RECORDS.true

pub returns : goal.returns
returns c = noted_in _ _ _ _ (omega (arith, c.if-count-ge-MAX_RECORDS.false))
