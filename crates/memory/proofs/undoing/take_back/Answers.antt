use Rattle.memory.specs.Log.{unbuild_only, unbuild_more}
use Rattle.memory.proofs.undoing.take_back.Goals as goal

pub returns-then-first-last : goal.returns-then-first-last
returns-then-first-last c = unbuild_only _ _ _ _ _ _ _ c.word-first.ensures c.word-last.ensures c.word-next.ensures _ c.put.ensures _ c.put-2.ensures c.if-first-last.true _ c.put-then-first-last.ensures

pub returns-else-first-last : goal.returns-else-first-last
returns-else-first-last c = unbuild_more _ _ _ _ _ _ _ c.word-first.ensures c.word-last.ensures c.word-next.ensures _ c.put.ensures _ c.put-2.ensures c.if-first-last.false
