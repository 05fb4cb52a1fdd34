-- The rest of the chain decides as the whole does.
use mathlib.Core.Path.{◌≡◌}
use Rattle.language.specs.Lists.{all}
use Rattle.language.specs.File.{variables}
use Rattle.language.specs.Answers.{program}
use Rattle.language.specs.Typing.{variable_ok}
use Rattle.chains.specs.Formed.{Stands, variables_at, ahead}
use Rattle.declarations.specs.Own.{declared}
use Rattle.declarations.proofs.signatures.variables_ok.Given as goal

abbrev pub invariant-loop-i : goal.invariant-loop-i
invariant-loop-i l = Stands l.file variables l.i × (all (variable_ok (program l.file).types (declared l.file l.own)) (variables_at l.file l.i) ≡ all (variable_ok (program l.file).types (declared l.file l.own)) (variables_at l.file l.start))

abbrev pub decreases-loop-i : goal.decreases-loop-i
decreases-loop-i l = ahead l.file l.i
