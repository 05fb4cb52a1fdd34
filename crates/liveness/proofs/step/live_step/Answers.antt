use Rattle.liveness.specs.Step.{live_at}
use Rattle.liveness.proofs.step.live_step.Goals as goal

pub returns : goal.returns
unfolding live_at
returns c = cc
