use Rattle.tables.proofs.Finding.{row_some, row_past}
use Rattle.tables.proofs.rows.row_set.Goals as goal

pub returns-then-i-lt-MAX_RECORDS : goal.returns-then-i-lt-MAX_RECORDS
returns-then-i-lt-MAX_RECORDS c = row_some _ _ _ c.if-i-lt-MAX_RECORDS.true c.loaded.ensures

pub returns : goal.returns
returns c = row_past _ _ _ c.if-i-lt-MAX_RECORDS.false
