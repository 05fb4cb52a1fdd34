-- The slots that are not looked at yet decide.
use mathlib.Core.Path.{◌≡◌}
use Rattle.declarations.specs.Own.{declared}
use Rattle.typing.specs.Arguments.{slots_left}
use Rattle.typing.proofs.constructs.arguments_ok.Given as goal

abbrev pub invariant-loop-k : goal.invariant-loop-k
invariant-loop-k l = slots_left l.file (declared l.file l.own) l.g l.i l.k ≡ slots_left l.file (declared l.file l.own) l.g l.i 0
