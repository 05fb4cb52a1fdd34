use Rattle.accesses.specs.Gathering.{no_access}
use mathlib.Core.Path.{refl}
use Rattle.accesses.proofs.steps.no_access.Goals as goal

pub returns : goal.returns
unfolding no_access
returns c = refl
