use Rattle.std.proofs.Common.{arith}
use Rattle.lines.specs.Put.{put_length}
use Rattle.lines.specs.Answers.{word_digits}
use Rattle.profiling.specs.Text.{spaced_put}
use Rattle.profiling.proofs.text.put_spaced.Goals as goal

pub put_decimal-end-requires : goal.put_decimal-end-requires
put_decimal-end-requires c = omega (arith, word_digits c.args.n (omega arith))

pub put_text-requires : goal.put_text-requires
put_text-requires c =
    let p = c.put_decimal-end.ensures in omega (arith, word_digits c.args.n (omega arith), put_length p, p.behind)

pub returns : goal.returns
returns c = let p = c.put_decimal-end.ensures in let q = c.put_text.ensures in record {
  put = spaced_put c.args.n p q;
  upper_bound = omega (arith, word_digits c.args.n (omega arith), p.behind, q.behind);
}
