use Rattle.liveness.proofs.StepLaws.{ends_wanted, bears_wanted, none_shared}
use Rattle.liveness.proofs.step.classes_kept.Goals as goal

pub returns-then-not-unwanted : goal.returns-then-not-unwanted
returns-then-not-unwanted c = ends_wanted _ _ _ _ _ c.ends_at.ensures c.unwanted.ensures c.if-not-unwanted.true

pub returns-then-not-unwanted-2 : goal.returns-then-not-unwanted-2
returns-then-not-unwanted-2 c = bears_wanted _ _ _ _ _ c.ends_at.ensures c.unwanted.ensures c.if-not-unwanted.false c.bears_at.ensures c.unwanted-2.ensures c.if-not-unwanted-2.true

pub returns : goal.returns
returns c = none_shared _ _ _ _ _ c.ends_at.ensures c.unwanted.ensures c.if-not-unwanted.false c.bears_at.ensures c.unwanted-2.ensures c.if-not-unwanted-2.false c.marked.ensures
