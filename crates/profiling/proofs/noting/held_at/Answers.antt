use Rattle.profiling.specs.Noting.{held_made}
use Rattle.profiling.proofs.noting.held_at.Goals as goal

pub returns : goal.returns
returns c = held_made _ _ c.frames_at.ensures
