use mathlib.Core.Path.{ap}
use Rattle.std.proofs.Common.{arith}
use lib.ListN.{length}
use Rattle.language.specs.Output.{decimal}
use Rattle.lines.specs.Answers.{stop_digits, word_digits, put_stop}
use Rattle.lines.proofs.answers.put_stop.Goals as goal

pub put_decimal-space-requires : goal.put_decimal-space-requires
put_decimal-space-requires c = omega (arith, stop_digits c.args.c, ap (λ n. length (decimal n)) c.from.ensures)

pub put_line-requires : goal.put_line-requires
put_line-requires c = omega (arith, stop_digits c.args.c, ap (λ n. length (decimal n)) c.from.ensures, word_digits c.args.steps (omega arith))

pub returns : goal.returns
returns c = put_stop c.args.c _ _ c.from.ensures c.put_text-number.ensures c.put_decimal-space.ensures c.put_line.ensures
