use Rattle.std.proofs.Common.{arith}
use mathlib.Core.Path.{◌∙◌}
use Rattle.profiling.specs.Moving.{moved_on, moved_ended}
use Rattle.profiling.specs.Advancing.{under_first, under_next, under_last, under_more}
use Rattle.profiling.proofs.advancing.advance.Goals as goal

pub loop-out-init : goal.loop-out-init
loop-out-init c = under_first _ c.requires.run_stands

pub overflow_sub-out : goal.overflow_sub-out
overflow_sub-out c = omega (arith, c.loop-out.invariant.fits)

pub forward-moved-requires : goal.forward-moved-requires
forward-moved-requires c = record {
  narrow = c.requires.narrow;
  run_stands = c.loop-out.invariant.stands;
}

pub note-at-requires : goal.note-at-requires
note-at-requires c = omega (arith, c.loop-out.invariant.fits, c.loop-out-test.true)

pub loop-out-smaller : goal.loop-out-smaller
loop-out-smaller c = let m = moved_on c.forward-moved.ensures c.in-Continue.is in omega (arith, m.next, m.low)

pub loop-out-preserved : goal.loop-out-preserved
loop-out-preserved c =
    under_next c.loop-out.invariant c.forward-moved.auto.cells c.forward-moved.auto.regions c.forward-moved.auto.frames c.forward-moved.auto.prints
    (moved_on c.forward-moved.ensures c.in-Continue.is) c.note-at.ensures.notes c.note-at.auto.out c.note-at.ensures.upper_bound

pub shape_of-cells-in-Break : goal.shape_of-cells-in-Break
shape_of-cells-in-Break c = c.forward-moved.auto.cells ∙ c.loop-out.invariant.cells

pub shape_of-regions-in-Break : goal.shape_of-regions-in-Break
shape_of-regions-in-Break c = c.forward-moved.auto.regions ∙ c.loop-out.invariant.regions

pub shape_of-frames-in-Break : goal.shape_of-frames-in-Break
shape_of-frames-in-Break c = c.forward-moved.auto.frames ∙ c.loop-out.invariant.frames

pub shape_of-prints-in-Break : goal.shape_of-prints-in-Break
shape_of-prints-in-Break c = c.forward-moved.auto.prints ∙ c.loop-out.invariant.prints

pub shape_of-out-in-Break : goal.shape_of-out-in-Break
shape_of-out-in-Break c = c.loop-out.invariant.size

pub returns-in-Break : goal.returns-in-Break
returns-in-Break c = under_last c.loop-out.invariant _ _ _ _ _ _ _ (moved_ended c.forward-moved.ensures c.in-Break.is)

pub shape_of-cells : goal.shape_of-cells
shape_of-cells c = c.loop-out.invariant.cells

pub shape_of-regions : goal.shape_of-regions
shape_of-regions c = c.loop-out.invariant.regions

pub shape_of-frames : goal.shape_of-frames
shape_of-frames c = c.loop-out.invariant.frames

pub shape_of-prints : goal.shape_of-prints
shape_of-prints c = c.loop-out.invariant.prints

pub shape_of-out : goal.shape_of-out
shape_of-out c = c.loop-out.invariant.size

pub returns : goal.returns
returns c = under_more c.loop-out.invariant c.requires.line_bytes_in_bounds (omega arith)
