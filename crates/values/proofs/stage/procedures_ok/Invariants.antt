-- The procedures passed in turn.
use Rattle.language.specs.Values.{procedure_values}
use Rattle.language.specs.Answers.{program}
use Rattle.values.proofs.Turns.{TestTurn}
use Rattle.values.proofs.stage.procedures_ok.Given as goal

abbrev pub invariant-loop-q : goal.invariant-loop-q
invariant-loop-q l = TestTurn (program l.file) (procedure_values (program l.file)) l.q
