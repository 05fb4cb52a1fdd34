-- The rows of the records passed are filled.
use Prim.Native.Nat.{◌<◌}
use Rattle.accesses.proofs.NotingLaws.{Noting}
use Rattle.accesses.proofs.filling.list_accesses.Given as goal

abbrev pub invariant-loop-i : goal.invariant-loop-i
invariant-loop-i l = (0 < l.i) × Noting l.file l.initial.rows l.i l.rows
