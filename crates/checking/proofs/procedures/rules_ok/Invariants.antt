use Rattle.language.specs.Checking.{procedure_rules}
use Rattle.language.specs.Answers.{program}
use Rattle.chains.specs.Formed.{ahead}
use Rattle.chains.specs.Turns.{Tests}
use Rattle.checking.proofs.procedures.rules_ok.Given as goal

abbrev pub invariant-loop-i : goal.invariant-loop-i
invariant-loop-i l = Tests l.file (procedure_rules (program l.file)) l.i l.q

abbrev pub decreases-loop-i : goal.decreases-loop-i
decreases-loop-i l = ahead l.file l.i
