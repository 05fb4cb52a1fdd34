-- `move_words` meets its contract: the words below i are still to move.
use Prim.Native.Nat.{◌≤◌}
use mathlib.Core.Path.{◌≡◌}
use lib.ListN.{length}
use Rattle.memory.specs.Moved.{moved}
use Rattle.memory.proofs.moving.move_words.Given as goal

abbrev pub invariant-loop-i : goal.invariant-loop-i
invariant-loop-i l = (moved l.p l.q l.i l.from l.to ≡ moved l.p l.q l.n l.from l.initial.to) × (length l.to ≡ length l.initial.to) × (l.i ≤ l.n)
