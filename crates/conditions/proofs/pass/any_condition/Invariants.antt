use Rattle.conditions.proofs.PassLaws.{Looked}
use Rattle.conditions.proofs.pass.any_condition.Given as goal

abbrev pub invariant-loop-i : goal.invariant-loop-i
invariant-loop-i l = Looked l.file l.i-end l.i l.found
