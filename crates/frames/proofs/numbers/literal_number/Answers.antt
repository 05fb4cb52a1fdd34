use Prim.Native.Nat.{◌-◌}
use mathlib.Core.Path.{sym, ◌∙◌}
use Rattle.std.proofs.Common.{arith}
use mir.Syntax.{w16, w32}
use mir.Facts.{to_z_pos}
use Rattle.language.specs.Numbers.{literal_number}
use Rattle.frames.specs.Laws.{complement}
use Rattle.frames.proofs.numbers.literal_number.Goals as goal

pub overflow_sub-result-else-v-lt-NEGATIVE_LITERALS : goal.overflow_sub-result-else-v-lt-NEGATIVE_LITERALS
overflow_sub-result-else-v-lt-NEGATIVE_LITERALS c = (complement w16 c.args.v (65535 - c.args.v) _ (omega arith) (to_z_pos w32 (omega arith)) (omega arith) c.if-v-lt-NEGATIVE_LITERALS.false).0

pub returns-then-v-lt-NEGATIVE_LITERALS : goal.returns-then-v-lt-NEGATIVE_LITERALS
unfolding literal_number
returns-then-v-lt-NEGATIVE_LITERALS c = to_z_pos w32 (omega arith) ∙ sym (to_z_pos w16 c.if-v-lt-NEGATIVE_LITERALS.true)

pub returns-else-v-lt-NEGATIVE_LITERALS : goal.returns-else-v-lt-NEGATIVE_LITERALS
unfolding literal_number
returns-else-v-lt-NEGATIVE_LITERALS c = (complement w16 c.args.v (65535 - c.args.v) _ (omega arith) (to_z_pos w32 (omega arith)) (omega (arith, c.requires)) c.if-v-lt-NEGATIVE_LITERALS.false).1
