use Rattle.std.proofs.Common.{arith, rules}
use Rattle.liveness.specs.Table.{after_at}
use Rattle.liveness.proofs.TableLaws.{before_past}
use Rattle.liveness.proofs.table.after_at.Goals as goal

pub returns-then-at-table : goal.returns-then-at-table
unfolding after_at
returns-then-at-table c = search rules

pub returns : goal.returns
unfolding after_at
returns c = before_past c.args.table.now _ (omega arith)
