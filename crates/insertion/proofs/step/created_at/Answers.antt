use Rattle.insertion.proofs.StepsLaws.{created_is}
use Rattle.insertion.proofs.step.created_at.Goals as goal

pub returns : goal.returns
returns c =
    created_is _ _ _ _ c.before_at-before.ensures c.after_at-after.ensures c.needs_at.ensures c.bears_at.ensures c.created_for.ensures
