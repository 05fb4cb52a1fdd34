use Rattle.std.proofs.Common.{arith}
use Rattle.profiling.specs.Text.{line_put}
use Rattle.profiling.proofs.text.put_line.Goals as goal

pub returns : goal.returns
returns c = let a = c.put_spaced-cells.ensures in let d = c.put_spaced-regions.ensures in let e = c.put_spaced-frames.ensures in let f = c.put_spaced-goal.ensures in let g = c.put_last.ensures in record {
  put = line_put c.args.l a.put d.put e.put f.put g.put;
  upper_bound = omega (arith, a.upper_bound, d.upper_bound, e.upper_bound, f.upper_bound, g.upper_bound);
}
