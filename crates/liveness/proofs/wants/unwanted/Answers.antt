use Rattle.liveness.proofs.WantsLaws.{none_wanted, some_wanted}
use Rattle.std.proofs.Common.{rules}
use Rattle.liveness.proofs.wants.unwanted.Goals as goal

pub returns-then-is_empty : goal.returns-then-is_empty
returns-then-is_empty c = none_wanted _ _ _ c.is_empty.ensures c.if-is_empty.true

pub returns : goal.returns
returns c = search (some_wanted, rules)
