use Rattle.annotation.specs.Stages.{seven, six, others_stay}
use Rattle.annotation.proofs.annotatable.lower.Goals as goal

pub returns-then-is_unannotated : goal.returns-then-is_unannotated
returns-then-is_unannotated c = rw c.in-Classes.is (seven c.is_unannotated.ensures c.if-is_unannotated.true)

pub returns-else-is_unannotated : goal.returns-else-is_unannotated
returns-else-is_unannotated c = rw c.in-Classes.is (six c.is_unannotated.ensures c.if-is_unannotated.false)

pub returns-in_default : goal.returns-in_default
returns-in_default c = others_stay _ _ c.in_default.not-Classes
