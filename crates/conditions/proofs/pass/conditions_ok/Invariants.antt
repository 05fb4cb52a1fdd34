-- The first i records have handed down, and stand where they may.
use Rattle.conditions.proofs.PassLaws.{Passed}
use Rattle.conditions.proofs.pass.conditions_ok.Given as goal

abbrev pub invariant-loop-i : goal.invariant-loop-i
invariant-loop-i l = Passed l.file l.i-end l.i l.inside
