-- The proof of the cycle of calls {put_digits}; n falls.
use Rattle.std.proofs.Common.{arith}
use lib.ListN.{length-set}
use Rattle.lines.specs.Put.{put_length}
use Rattle.lines.specs.Digits.{digits_length, put_zero, put_last}
use Rattle.lines.proofs.numbers.+put_digits.Goals as goal

pub returns-then-n-eq0 : goal.returns-then-n-eq0
returns-then-n-eq0 t c = put_zero _ _ _ (omega arith)

pub put_digits-last-requires : goal.put_digits-last-requires
put_digits-last-requires t c = (omega arith, omega (arith, digits_length c.args.n (omega arith)))

pub bounds-out-last : goal.bounds-out-last
bounds-out-last t c =
    omega (arith, digits_length c.args.n (omega arith), put_length c.put_digits-last.ensures)

pub overflow_add-result : goal.overflow_add-result
overflow_add-result t c =
    omega (arith, digits_length c.args.n (omega arith), put_length c.put_digits-last.ensures)

pub shape_of-out : goal.shape_of-out
shape_of-out t c = simp length-set (put_length c.put_digits-last.ensures)

pub returns : goal.returns
returns t c = put_last c.args.n c.digit.result (omega arith) c.put_digits-last.ensures c.digit.ensures
