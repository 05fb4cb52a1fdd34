use mathlib.Core.Path.{ap}
use Rattle.std.proofs.Common.{arith}
use lib.ListN.{length}
use Rattle.lines.specs.Digits.{decimal_digits, put_nought, nought_length}
use Rattle.lines.proofs.numbers.put_decimal.Goals as goal

pub bounds-out-at : goal.bounds-out-at
bounds-out-at c = omega (arith, nought_length c.args.n (omega arith))

pub returns-then-n-eq0 : goal.returns-then-n-eq0
returns-then-n-eq0 c = put_nought _ _ _ (omega arith)

pub put_digits-requires : goal.put_digits-requires
put_digits-requires c = omega (arith, ap length (decimal_digits c.args.n (omega arith)))

pub returns : goal.returns
returns c =
    rw (decimal_digits c.args.n (omega arith)) c.put_digits.ensures
