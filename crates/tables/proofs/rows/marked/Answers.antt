use mathlib.Core.Path.{refl}
use Rattle.tables.proofs.Finding.{mark_some, mark_past}
use Rattle.tables.proofs.rows.marked.Goals as goal

pub returns-then-i-lt-MAX_RECORDS : goal.returns-then-i-lt-MAX_RECORDS
returns-then-i-lt-MAX_RECORDS c = mark_some _ _ c.if-i-lt-MAX_RECORDS.true refl

pub returns : goal.returns
returns c = mark_past _ _ c.if-i-lt-MAX_RECORDS.false
