use Rattle.tables.specs.Rows.{bears_in}
use Rattle.tables.proofs.rows.bears_at.Goals as goal

pub returns : goal.returns
unfolding bears_in
returns c = c.row_set.ensures
