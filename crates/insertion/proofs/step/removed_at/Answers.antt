use Rattle.insertion.proofs.StepsLaws.{removed_is}
use Rattle.insertion.proofs.step.removed_at.Goals as goal

pub returns : goal.returns
returns c =
    removed_is _ _ _ _ c.before_at.ensures c.after_at-after.ensures _ c.union-held.ensures c.ends_at.ensures c.bears_at.ensures c.removed_after.ensures
