-- The table at a kind's number, and at any number above. Assumes nothing.
use Rattle.std.proofs.Common.{arith}
use mathlib.Core.Path.{ap, ◌∙◌}
use lib.ListN.{get_or}
use Rattle.records.proofs.TableLaws.{table_at, table_past}
use Rattle.records.proofs.form.row_of.Goals as goal

pub returns-then-kind-lt-KINDS_END : goal.returns-then-kind-lt-KINDS_END
returns-then-kind-lt-KINDS_END c = λ f e. ap (λ xs. get_or xs c.args.kind 0) e ∙ table_at f c.args.kind (omega arith)

pub returns-else-kind-lt-KINDS_END : goal.returns-else-kind-lt-KINDS_END
returns-else-kind-lt-KINDS_END c = λ f e. ap (λ xs. get_or xs 0 0) e ∙ table_past f c.args.kind (omega arith)
