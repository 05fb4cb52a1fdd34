use mathlib.Core.Path.{refl}
use Rattle.memory.specs.Memory.{unused}
use Rattle.memory.proofs.pools.fresh.Goals as goal

pub returns : goal.returns
unfolding unused
returns c = refl
