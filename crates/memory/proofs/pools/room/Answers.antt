use Rattle.memory.proofs.Ways.{room_none, room_all, room_most}
use Rattle.memory.proofs.pools.room.Goals as goal

pub returns-then-each-eq0 : goal.returns-then-each-eq0
returns-then-each-eq0 c = room_none _ _ c.if-each-eq0.true

pub returns-then-n : goal.returns-then-n
returns-then-n c = room_all _ _ c.if-n.true

pub returns-else-n : goal.returns-else-n
returns-else-n c = room_most _ _ c.if-n.false
