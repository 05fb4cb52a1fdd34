use mathlib.Core.Path.{sym}
use lib.Seq.{set_out}
use Rattle.memory.proofs.words.put.Goals as goal

pub returns-else-at-mem : goal.returns-else-at-mem
returns-else-at-mem c = sym (set_out _ _ _ c.if-at-mem.false)
