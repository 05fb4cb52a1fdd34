use mathlib.Core.Path.{refl}
use Rattle.machine.specs.Runs.{ended_at}
use Rattle.machine.proofs.runs.ended.Goals as goal

pub returns : goal.returns
unfolding ended_at
returns c = refl
