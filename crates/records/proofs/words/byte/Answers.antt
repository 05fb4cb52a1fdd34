-- Past the end a list gives 0. Assumes nothing.
use mathlib.Core.Path.{sym}
use Rattle.std.proofs.Common.{arith}
use lib.ListN.{get_or-eq_default}
use Rattle.records.proofs.words.byte.Goals as goal

pub returns-else-at-file : goal.returns-else-at-file
returns-else-at-file c = (sym (get_or-eq_default c.args.file.now 0 c.if-at-file.false), omega arith)
