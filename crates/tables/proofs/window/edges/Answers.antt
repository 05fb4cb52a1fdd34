use Rattle.std.proofs.Common.{arith}
use Rattle.tables.specs.Window.{number_few, edges_past, edges_some, edges_none}
use Rattle.tables.proofs.window.edges.Goals as goal

pub returns-then-n-ge-PLACES : goal.returns-then-n-ge-PLACES
returns-then-n-ge-PLACES c = edges_past _ _ c.word_at-n.ensures c.if-n-ge-PLACES.true

pub overflow_mul-n : goal.overflow_mul-n
overflow_mul-n c = let l = number_few _ _ c.is_number.ensures c.if-is_number.true in omega (arith, l, c.if-n-ge-PLACES.false)

pub overflow_add-n : goal.overflow_add-n
overflow_add-n c = let l = number_few _ _ c.is_number.ensures c.if-is_number.true in omega (arith, l, c.if-n-ge-PLACES.false)

pub overflow_add-n-then-is_number : goal.overflow_add-n-then-is_number
overflow_add-n-then-is_number c = let l = number_few _ _ c.is_number.ensures c.if-is_number.true in omega (arith, l, c.if-n-ge-PLACES.false)

pub returns-then-is_number : goal.returns-then-is_number
returns-then-is_number c = edges_some _ _ c.word_at-n.ensures c.if-n-ge-PLACES.false c.word_at.ensures c.is_number.ensures c.if-is_number.true c.word_at-then-is_number.ensures

pub returns-else-is_number : goal.returns-else-is_number
returns-else-is_number c = edges_none _ _ c.word_at-n.ensures c.if-n-ge-PLACES.false c.word_at.ensures c.is_number.ensures c.if-is_number.false
