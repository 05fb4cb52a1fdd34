use Rattle.tables.specs.Rows.{put_effect}
use Rattle.tables.proofs.rows.put_effect.Goals as goal

pub returns : goal.returns
unfolding put_effect
returns c = cc
