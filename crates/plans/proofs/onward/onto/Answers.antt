use Rattle.plans.specs.Onward.{onto_none, onto_some}
use Rattle.plans.proofs.onward.onto.Goals as goal

pub returns-then-first-eq0 : goal.returns-then-first-eq0
returns-then-first-eq0 c = onto_none _ _ c.if-first-eq0.true

pub returns-else-first-eq0 : goal.returns-else-first-eq0
returns-else-first-eq0 c = onto_some _ _ c.if-first-eq0.false
