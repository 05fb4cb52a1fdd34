use Rattle.profiling.specs.Noting.{frames_none, frames_some}
use Rattle.profiling.proofs.noting.frames_at.Goals as goal

pub returns-then-state-eq0 : goal.returns-then-state-eq0
returns-then-state-eq0 c = frames_none _ _ c.if-state-eq0.true

pub returns : goal.returns
returns c = frames_some _ _ c.if-state-eq0.false
