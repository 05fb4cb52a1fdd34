use Prim.Native.Nat.{◌-◌}
use Rattle.std.proofs.Common.{arith}
use mir.Syntax.{w32}
use mir.Facts.{to_z_pos}
use Rattle.frames.specs.Laws.{complement}
use Rattle.frames.proofs.numbers.signed.Goals as goal

pub overflow_sub-result-else-x-lt-NEGATIVE_FROM : goal.overflow_sub-result-else-x-lt-NEGATIVE_FROM
overflow_sub-result-else-x-lt-NEGATIVE_FROM c = (complement w32 c.args.x (4294967295 - c.args.x) _ (omega (arith, c.ranges.x)) (to_z_pos w32 (omega (arith, c.ranges.x))) (omega arith) c.if-x-lt-NEGATIVE_FROM.false).0

pub returns-else-x-lt-NEGATIVE_FROM : goal.returns-else-x-lt-NEGATIVE_FROM
returns-else-x-lt-NEGATIVE_FROM c = (complement w32 c.args.x (4294967295 - c.args.x) _ (omega (arith, c.ranges.x)) (to_z_pos w32 (omega (arith, c.ranges.x))) (omega arith) c.if-x-lt-NEGATIVE_FROM.false).1
