use Rattle.tables.specs.Rows.{put_access}
use Rattle.tables.proofs.rows.put_access.Goals as goal

pub returns : goal.returns
unfolding put_access
returns c = cc
