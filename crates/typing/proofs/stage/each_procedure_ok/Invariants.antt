-- The rest of the chain decides as the whole does.
use mathlib.Core.Path.{◌≡◌}
use Rattle.language.specs.Lists.{all}
use Rattle.language.specs.File.{procedures}
use Rattle.language.specs.Answers.{program}
use Rattle.language.specs.Typing.{procedure_ok}
use Rattle.chains.specs.Formed.{Stands, procedures_at, ahead}
use Rattle.typing.proofs.stage.each_procedure_ok.Given as goal

abbrev pub invariant-loop-i : goal.invariant-loop-i
invariant-loop-i l = Stands l.file procedures l.i × (all (procedure_ok (program l.file)) (procedures_at l.file l.i) ≡ all (procedure_ok (program l.file)) (procedures_at l.file l.start))

abbrev pub decreases-loop-i : goal.decreases-loop-i
decreases-loop-i l = ahead l.file l.i
