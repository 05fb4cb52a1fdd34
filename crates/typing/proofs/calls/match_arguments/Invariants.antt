-- What is left of the two chains decides as the whole does.
use mathlib.Core.Path.{◌≡◌}
use Rattle.language.specs.Format.{variable_mode}
use Rattle.language.specs.File.{variables, arguments, word}
use Rattle.language.specs.Typing.{have_types}
use Rattle.chains.specs.Formed.{Stands, variables_at, arguments_at, ahead}
use Rattle.declarations.specs.Parameters.{taken_types}
use Rattle.declarations.specs.Own.{declared}
use Rattle.typing.proofs.calls.match_arguments.Given as goal

abbrev pub invariant-loop-v : goal.invariant-loop-v
invariant-loop-v l = Stands l.file variables l.v × ((l.v ≡ 0 → ⊥) → word l.file l.v variable_mode ≡ 0 → ⊥) × Stands l.file arguments l.y × (have_types (declared l.file l.own) (taken_types (variables_at l.file l.v)) (arguments_at l.file l.y) ≡ have_types (declared l.file l.own) (taken_types (variables_at l.file l.start)) (arguments_at l.file l.first))

abbrev pub decreases-loop-v : goal.decreases-loop-v
decreases-loop-v l = ahead l.file l.v
