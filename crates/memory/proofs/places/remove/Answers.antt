use Rattle.memory.specs.Laws.{remove_empty, remove_some}
use Rattle.memory.proofs.places.remove.Goals as goal

pub returns-then-free-last : goal.returns-then-free-last
returns-then-free-last c = remove_empty _ _ _ _ _ _ c.word-first.ensures c.word-last.ensures _ c.put.ensures c.if-free-last.true

pub returns : goal.returns
returns c = remove_some _ _ _ _ _ _ c.word-first.ensures c.word-last.ensures _ c.put.ensures c.if-free-last.false _ c.put-2.ensures
