-- The words before `word` are put, 12 bytes each at most.
use Rattle.std.proofs.Common.{arith}
use Rattle.lines.specs.Put.{put_none, put_length}
use Rattle.lines.specs.Signed.{numbers_none, put_numbers, all_numbers}
use Rattle.lines.proofs.answers.put_numbers.Goals as goal

pub loop-word-init : goal.loop-word-init
loop-word-init c = (omega arith, omega arith, rw numbers_none (put_none _ _))

pub put_number-end-requires : goal.put_number-end-requires
put_number-end-requires c = omega (arith, put_length c.loop-word.invariant.2)

pub loop-word-preserved : goal.loop-word-preserved
loop-word-preserved c = (
  omega arith,
  omega (arith, c.put_number-end.ensures.upper_bound),
  put_numbers c.args.words.now _ _ c.loop-word.word-index (omega arith) c.loop-word.invariant.2 c.put_number-end.ensures.put,
)

pub shape_of-out : goal.shape_of-out
shape_of-out c = put_length c.loop-word.invariant.2

pub returns : goal.returns
returns c = record {
  put = all_numbers c.args.words.now _ _ _ _ c.loop-word.word-index (omega arith) c.loop-word.invariant.2;
  upper_bound = omega arith;
}
