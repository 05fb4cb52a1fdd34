use Rattle.std.proofs.Common.{arith}
use Rattle.machine.specs.Entries.{entry_in, entry_past}
use Rattle.machine.proofs.entries.entry_word.Goals as goal

pub returns-then-i-ge-MAX_RECORDS : goal.returns-then-i-ge-MAX_RECORDS
returns-then-i-ge-MAX_RECORDS c = entry_past _ _ _ c.if-i-ge-MAX_RECORDS.true

pub returns : goal.returns
returns c = entry_in _ _ _ (omega (arith, c.if-i-ge-MAX_RECORDS.false))
