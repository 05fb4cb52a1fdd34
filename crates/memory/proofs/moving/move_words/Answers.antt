-- `move_words` meets its contract: the words below i are still to move.
use Rattle.std.proofs.Common.{arith}
use mathlib.Core.Path.{refl}
use lib.ListN.{length-set}
use Rattle.memory.specs.Moved.{moved_next, moved_none}
use Rattle.memory.proofs.moving.move_words.Goals as goal

pub loop-i-init : goal.loop-i-init
loop-i-init c = (refl, refl, omega arith)

pub loop-i-preserved : goal.loop-i-preserved
loop-i-preserved c = (
  moved_next _ _ _ _ _ _ _ c.loop-i-test.true c.loop-i.invariant.0 refl,
  simp length-set c.loop-i.invariant.1,
  omega (arith, c.loop-i.invariant.2),
)

pub returns : goal.returns
returns c = moved_none _ _ _ _ _ _ (omega arith) c.loop-i.invariant.0
