use Rattle.tables.specs.Rows.{needs_in}
use Rattle.tables.proofs.rows.needs_at.Goals as goal

pub returns : goal.returns
unfolding needs_in
returns c = c.row_set.ensures
