use mathlib.Core.Path.{sym}
use lib.ListN.{get_or-eq_default}
use Rattle.memory.proofs.words.word.Goals as goal

pub returns-else-at-mem : goal.returns-else-at-mem
returns-else-at-mem c = sym (get_or-eq_default c.args.mem.now 0 c.if-at-mem.false)
