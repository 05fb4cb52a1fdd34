use Rattle.memory.specs.Laws.{hang_first, hang_more}
use Rattle.std.proofs.Common.{rules}
use Rattle.memory.proofs.cells.hang.Goals as goal

pub returns-then-limit-last : goal.returns-then-limit-last
returns-then-limit-last c = search (hang_first, rules)

pub returns-else-limit-last : goal.returns-else-limit-last
returns-else-limit-last c = search (hang_more, rules)
