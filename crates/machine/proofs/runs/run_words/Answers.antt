use mathlib.Core.Path.{refl}
use Rattle.machine.proofs.CallsLaws.{body_as, size_as}
use Rattle.machine.proofs.RunsLaws.{from_start, frameless}
use Rattle.std.proofs.Common.{arith}
use Rattle.machine.proofs.runs.run_words.Goals as goal

pub returns-then-frames-lt-FRAME_WORDS : goal.returns-then-frames-lt-FRAME_WORDS
returns-then-frames-lt-FRAME_WORDS c = frameless _ _ _ _ _ _ _ c.args.callees.now _ _ c.if-frames-lt-FRAME_WORDS.true c.first_state.ensures c.ended.ensures

pub run_on-requires : goal.run_on-requires
run_on-requires c = let p = c.requires in record {
  formed = p;
  frame_words_in_bounds = omega (arith, c.if-frames-lt-FRAME_WORDS.false, c.clear.auto.frames);
}

pub returns : goal.returns
returns c =
    from_start _ _ _ _ _ c.args.frames.now _ c.args.callees.now _ _ _ _ _ _ _ c.if-frames-lt-FRAME_WORDS.false (body_as _ _ _ _ _ refl) (size_as _ _ _ _ _ c.size_of.ensures) c.clear.ensures
    c.clear.auto.frames c.run_on.ensures
