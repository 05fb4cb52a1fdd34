use Rattle.tables.specs.Rows.{reads_in}
use Rattle.tables.proofs.rows.reads_at.Goals as goal

pub returns : goal.returns
unfolding reads_in
returns c = c.row_set.ensures
