use Rattle.frames.specs.Laws.{widens, sum_added, sum_subtracted}
use Rattle.frames.proofs.numbers.sum_of.Goals as goal

pub overflow_cast-y : goal.overflow_cast-y
overflow_cast-y c = (widens _ _ c.ranges.a c.signed-y.ensures).0

pub overflow_cast-z : goal.overflow_cast-z
overflow_cast-z c = (widens _ _ c.ranges.b c.signed-z.ensures).0

pub overflow_add-result : goal.overflow_add-result
overflow_add-result c = let p = c.ranges in (sum_added _ _ _ _ _ p.a p.b c.signed-y.ensures c.signed-z.ensures c.if-operation-eq0.true).0

pub overflow_sub-result : goal.overflow_sub-result
overflow_sub-result c = let p = c.ranges in (sum_subtracted _ _ _ _ _ p.a p.b c.signed-y.ensures c.signed-z.ensures c.if-operation-eq0.false).0

pub returns-then-operation-eq0 : goal.returns-then-operation-eq0
returns-then-operation-eq0 c = let p = c.ranges in (sum_added _ _ _ _ _ p.a p.b c.signed-y.ensures c.signed-z.ensures c.if-operation-eq0.true).1

pub returns-else-operation-eq0 : goal.returns-else-operation-eq0
returns-else-operation-eq0 c = let p = c.ranges in (sum_subtracted _ _ _ _ _ p.a p.b c.signed-y.ensures c.signed-z.ensures c.if-operation-eq0.false).1
