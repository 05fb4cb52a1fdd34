use mathlib.Core.Path.{ap}
use Rattle.std.proofs.Common.{arith}
use lib.ListN.{length}
use Rattle.language.specs.Output.{decimal}
use Rattle.lines.specs.Answers.{refusal_digits, put_refusal}
use Rattle.lines.proofs.answers.put_refusal.Goals as goal

pub put_line-requires : goal.put_line-requires
put_line-requires c = omega (arith, refusal_digits c.args.r, ap (λ n. length (decimal n)) c.from.ensures)

pub returns : goal.returns
returns c = put_refusal c.args.r c.from.result c.from.ensures c.put_line.ensures
