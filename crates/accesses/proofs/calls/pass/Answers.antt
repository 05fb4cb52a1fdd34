use Rattle.std.proofs.Common.{rules}
use Rattle.accesses.proofs.Turning.{told_read, told_give}
use Rattle.accesses.proofs.calls.pass.Goals as goal

pub returns-then-has : goal.returns-then-has
returns-then-has c = search (told_read, told_give, rules)

pub returns-else-has : goal.returns-else-has
returns-else-has c = search (told_read, told_give, rules)
