use mathlib.Core.Path.{sym}
use Rattle.std.proofs.Common.{arith}
use Rattle.tables.specs.Starts.{start_is}
use Rattle.tables.proofs.Finding.{start_past, start_none}
use Rattle.tables.proofs.starts.start_of.Goals as goal

pub returns-then-start-table : goal.returns-then-start-table
returns-then-start-table c = let a = c.args in record {
  value = sym (start_is a.table.now a.q (omega arith));
  upper_bound = omega arith;
}

pub returns-else-start-table : goal.returns-else-start-table
returns-else-start-table c = let a = c.args in record {
  value = sym (start_past a.table.now a.q (omega arith));
  upper_bound = omega arith;
}

pub returns-else-q-table : goal.returns-else-q-table
returns-else-q-table c = let a = c.args in record {
  value = sym (start_none a.table.now a.q (omega arith));
  upper_bound = omega arith;
}
