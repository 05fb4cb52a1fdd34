use Rattle.writer.specs.Laid.{linked_none, linked_some}
use Rattle.writer.proofs.put.link.Goals as goal

pub returns-then-w-eq0 : goal.returns-then-w-eq0
returns-then-w-eq0 c = linked_none _ c.if-w-eq0.true

pub returns-else-w-eq0 : goal.returns-else-w-eq0
returns-else-w-eq0 c = linked_some _ _ c.if-w-eq0.false
