-- The proof of the cycle of calls {put_digits}; n falls.
use Rattle.lines.proofs.numbers.+put_digits.Given as goal

abbrev pub decreases-put_digits : goal.decreases-put_digits
decreases-put_digits l = l.n
