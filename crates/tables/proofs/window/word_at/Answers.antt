use mathlib.Core.Path.{sym}
use lib.ListN.{get_or-eq_default}
use Rattle.tables.proofs.window.word_at.Goals as goal

pub returns-else-k-own : goal.returns-else-k-own
returns-else-k-own c = sym (get_or-eq_default c.args.own.now 0 c.if-k-own.false)
