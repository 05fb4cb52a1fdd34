-- The pass from record i on is still to do.
use Rattle.std.proofs.Common.{arith}
use Rattle.language.specs.File.{record_count}
use Rattle.plans.specs.Passes.{placing}
use Rattle.plans.specs.Turns.{pass_first, pass_below, pass_more, pass_last}
use Rattle.plans.proofs.arguments.match_calls.Goals as goal

pub loop-i-init : goal.loop-i-init
unfolding record_count
loop-i-init c = pass_first _ _ c.word-n.ensures.0

pub match_record-requires : goal.match_record-requires
match_record-requires c = let P = c.loop-i.invariant in record {
  typed_and_filled = c.requires;
  i_nonzero = (P.some, pass_below _ P c.loop-i-test.true);
}

pub loop-i-preserved : goal.loop-i-preserved
loop-i-preserved c = pass_more _ c.loop-i.invariant c.loop-i-test.true c.match_record.ensures

pub returns : goal.returns
unfolding placing
returns c = pass_last _ c.loop-i.invariant (omega arith)
