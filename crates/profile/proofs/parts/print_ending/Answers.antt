-- `print_ending`: the last line fits.
use Rattle.std.proofs.Common.{arith}
use mathlib.Core.Path.{sym}
use lib.Seq.{length-take-le}
use Rattle.profile.specs.Parts.{ending_fits}
use Rattle.profile.proofs.parts.print_ending.Goals as goal

pub slice_bounds-print-end : goal.slice_bounds-print-end
slice_bounds-print-end c = ending_fits c.args.ending c.args.steps (omega arith) (omega (arith, c.requires)) c.put_ending-n.ensures

pub slice_bounds-print-end-2 : goal.slice_bounds-print-end-2
slice_bounds-print-end-2 c = sym (length-take-le _ _ (ending_fits c.args.ending c.args.steps (omega arith) (omega (arith, c.requires)) c.put_ending-n.ensures))
