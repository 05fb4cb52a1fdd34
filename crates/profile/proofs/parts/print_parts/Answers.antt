-- `print_parts` ends: the steps that are left fall.
use Rattle.std.proofs.Common.{arith}
use mathlib.Core.Path.{sym, ◌∙◌}
use lib.Seq.{length-take-le}
use Rattle.profile.specs.Parts.{going_first, going_on_law, advanced, last_fits}
use Rattle.profile.proofs.parts.print_parts.Goals as goal

pub loop-n-init : goal.loop-n-init
loop-n-init c = going_first _ c.requires.run_stands

pub advance-part-requires : goal.advance-part-requires
advance-part-requires c = record {
  narrow = c.requires.narrow;
  line_bytes_in_bounds = omega (arith, c.requires.line_bytes_in_bounds, c.loop-n.invariant.size);
  run_stands = c.loop-n.invariant.stands;
}

pub slice_bounds-print-end : goal.slice_bounds-print-end
slice_bounds-print-end c = (advanced c.advance-part.ensures c.in-More.is).fits

pub slice_bounds-print-end-in-More : goal.slice_bounds-print-end-in-More
slice_bounds-print-end-in-More c = sym (length-take-le _ _ (advanced c.advance-part.ensures c.in-More.is).fits)

pub loop-n-smaller : goal.loop-n-smaller
loop-n-smaller c =
    let m = advanced c.advance-part.ensures c.in-More.is in
    omega (arith, m.later, m.low)

pub loop-n-preserved : goal.loop-n-preserved
loop-n-preserved c =
    going_on_law c.loop-n.invariant c.advance-part.auto.cells c.advance-part.auto.regions c.advance-part.auto.frames c.advance-part.auto.prints c.advance-part.auto.out
    (advanced c.advance-part.ensures c.in-More.is).stands

pub slice_bounds-print-end-in-Last : goal.slice_bounds-print-end-in-Last
slice_bounds-print-end-in-Last c = last_fits c.advance-part.ensures c.in-Last.is

pub slice_bounds-print-end-in-Last-2 : goal.slice_bounds-print-end-in-Last-2
slice_bounds-print-end-in-Last-2 c = sym (length-take-le _ _ (last_fits c.advance-part.ensures c.in-Last.is))

pub print_ending-requires : goal.print_ending-requires
print_ending-requires c =
    omega (arith, c.requires.line_bytes_in_bounds, c.loop-n.invariant.size, c.advance-part.auto.out)

pub shape_of-cells-in-Last : goal.shape_of-cells-in-Last
shape_of-cells-in-Last c = c.advance-part.auto.cells ∙ c.loop-n.invariant.cells

pub shape_of-regions-in-Last : goal.shape_of-regions-in-Last
shape_of-regions-in-Last c = c.advance-part.auto.regions ∙ c.loop-n.invariant.regions

pub shape_of-frames-in-Last : goal.shape_of-frames-in-Last
shape_of-frames-in-Last c = c.advance-part.auto.frames ∙ c.loop-n.invariant.frames

pub shape_of-prints-in-Last : goal.shape_of-prints-in-Last
shape_of-prints-in-Last c = c.advance-part.auto.prints ∙ c.loop-n.invariant.prints

pub shape_of-out-in-Last : goal.shape_of-out-in-Last
shape_of-out-in-Last c = c.print_ending.auto.out ∙ (c.advance-part.auto.out ∙ c.loop-n.invariant.size)
