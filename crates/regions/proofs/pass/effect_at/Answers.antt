use Rattle.tables.specs.Rows.{effect_in}
use Rattle.regions.proofs.pass.effect_at.Goals as goal

pub returns : goal.returns
unfolding effect_in
returns c = cc
