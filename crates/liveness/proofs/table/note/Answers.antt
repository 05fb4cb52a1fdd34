use Rattle.std.proofs.Common.{arith}
use lib.ListN.{length-set}
use Rattle.liveness.proofs.TableLaws.{fills_point, fills_full}
use Rattle.liveness.proofs.table.note.Goals as goal

pub returns-then-end-lt2 : goal.returns-then-end-lt2
returns-then-end-lt2 c = fills_full _ _ _ _ _ (λ p q. omega arith)

pub bounds-table-start-then-end-table : goal.bounds-table-start-then-end-table
bounds-table-start-then-end-table c = simp length-set (omega arith)

pub returns-then-end-table : goal.returns-then-end-table
returns-then-end-table c = fills_point _ _ _ _ (omega arith) (omega arith) c.stored.ensures c.stored-then-end-table.ensures

pub returns-else-end-table : goal.returns-else-end-table
returns-else-end-table c = fills_full _ _ _ _ _ (λ p q. omega arith)
