use Rattle.std.proofs.Common.{arith}
use Rattle.tables.specs.Window.{number_few, reach_some, reach_none}
use Rattle.tables.proofs.window.reach.Goals as goal

pub overflow_mul-x : goal.overflow_mul-x
overflow_mul-x c = let l = number_few _ _ c.is_number.ensures c.if-is_number.true in omega (arith, l)

pub overflow_add-x : goal.overflow_add-x
overflow_add-x c = let l = number_few _ _ c.is_number.ensures c.if-is_number.true in omega (arith, l)

pub returns-then-is_number : goal.returns-then-is_number
returns-then-is_number c = reach_some _ _ c.word_at.ensures c.is_number.ensures c.if-is_number.true c.set_at.ensures

pub returns-else-is_number : goal.returns-else-is_number
returns-else-is_number c = reach_none _ _ c.word_at.ensures c.is_number.ensures c.if-is_number.false
