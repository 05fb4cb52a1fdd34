use Rattle.std.proofs.Common.{arith}
use Rattle.lines.specs.Put.{put_length}
use Rattle.lines.specs.Signed.{signed_most, put_number}
use Rattle.lines.proofs.answers.put_number.Goals as goal

pub put_signed-end-requires : goal.put_signed-end-requires
put_signed-end-requires c = omega (arith, signed_most c.args.word (omega arith))

pub put_text-requires : goal.put_text-requires
put_text-requires c =
    omega (arith, signed_most c.args.word (omega arith), put_length c.put_signed-end.ensures, c.put_signed-end.ensures.behind)

pub returns : goal.returns
returns c = record {
  put = put_number c.args.word c.put_signed-end.ensures c.put_text.ensures;
  upper_bound = omega (arith, signed_most c.args.word (omega arith), c.put_signed-end.ensures.behind, c.put_text.ensures.behind);
}
