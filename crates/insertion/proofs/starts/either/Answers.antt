use Rattle.insertion.proofs.StartsLaws.{first_none, first_some}
use Rattle.insertion.proofs.starts.either.Goals as goal

pub returns-then-condition-eq0 : goal.returns-then-condition-eq0
returns-then-condition-eq0 c = first_none _ c.if-condition-eq0.true

pub returns-else-condition-eq0 : goal.returns-else-condition-eq0
returns-else-condition-eq0 c = first_some _ _ c.if-condition-eq0.false
