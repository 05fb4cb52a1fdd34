use Rattle.tables.specs.Rows.{access_in}
use Rattle.tables.proofs.rows.access_at.Goals as goal

pub returns : goal.returns
unfolding access_in
returns c = cc
