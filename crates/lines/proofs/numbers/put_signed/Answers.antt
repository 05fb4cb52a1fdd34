use mathlib.Core.Path.{ap, ◌∙◌}
use Rattle.std.proofs.Common.{arith}
use lib.ListN.{length, length-set}
use Rattle.lines.specs.Put.{put_length}
use Rattle.lines.specs.Signed.{signed_low, signed_high, put_low, put_high}
use Rattle.lines.proofs.numbers.put_signed.Goals as goal

pub put_decimal-requires : goal.put_decimal-requires
put_decimal-requires c = rw c.from.ensures (omega (arith, ap length (signed_low c.args.word (omega arith))))

pub returns-then-word-lt-NEGATIVE_FROM : goal.returns-then-word-lt-NEGATIVE_FROM
returns-then-word-lt-NEGATIVE_FROM c = put_low c.args.word (omega arith) (rw c.from.ensures at c.put_decimal.ensures)

pub bounds-out-at : goal.bounds-out-at
bounds-out-at c = omega (arith, ap length (signed_high c.args.word (omega arith) (omega arith)))

pub put_decimal-requires-2 : goal.put_decimal-requires-2
put_decimal-requires-2 c =
    simp length-set (rw c.from-2.ensures (omega (arith, ap length (signed_high c.args.word (omega arith) (omega arith)))))

pub shape_of-out : goal.shape_of-out
shape_of-out c = put_length c.put_decimal-2.ensures ∙ simp length-set

pub returns : goal.returns
returns c = put_high _ _ c.args.word (omega arith) (omega arith) (rw c.from-2.ensures at c.put_decimal-2.ensures)
