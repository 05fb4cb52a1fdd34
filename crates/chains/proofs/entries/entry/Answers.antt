use mathlib.Core.Path.{sym}
use lib.ListN.{get_or-eq_default}
use Rattle.chains.proofs.entries.entry.Goals as goal

pub returns-else-n-table : goal.returns-else-n-table
returns-else-n-table c = sym (get_or-eq_default c.args.table.now 0 c.if-n-table.false)
