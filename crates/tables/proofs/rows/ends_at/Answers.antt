use Rattle.tables.specs.Rows.{ends_in}
use Rattle.tables.proofs.rows.ends_at.Goals as goal

pub returns : goal.returns
unfolding ends_in
returns c = c.row_set.ensures
