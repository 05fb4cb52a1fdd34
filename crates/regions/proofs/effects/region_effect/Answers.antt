use Rattle.regions.specs.Effects.{region_effect}
use Rattle.regions.proofs.effects.region_effect.Goals as goal

pub returns : goal.returns
unfolding region_effect
returns c = cc
