-- The invariant and its laws are in Testing.
use Rattle.owners.proofs.Testing.{Left}
use Rattle.owners.proofs.plain.is_unannotated.Given as goal

abbrev pub invariant-loop-i : goal.invariant-loop-i
invariant-loop-i l = Left l.file l.i-end l.i
