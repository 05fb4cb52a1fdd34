use Rattle.liveness.specs.Table.{before_at}
use Rattle.liveness.proofs.TableLaws.{before_past}
use Rattle.std.proofs.Common.{rules}
use Rattle.liveness.proofs.table.before_at.Goals as goal

pub returns-then-at-table : goal.returns-then-at-table
unfolding before_at
returns-then-at-table c = search rules

pub returns : goal.returns
returns c = search (before_past, rules)
