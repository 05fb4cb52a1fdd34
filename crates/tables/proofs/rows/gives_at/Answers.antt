use Rattle.tables.specs.Rows.{gives_in}
use Rattle.tables.proofs.rows.gives_at.Goals as goal

pub returns : goal.returns
unfolding gives_in
returns c = c.row_set.ensures
