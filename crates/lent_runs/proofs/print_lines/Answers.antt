use Rattle.std.proofs.Common.{arith, rules}
use mathlib.Core.Path.{sym}
use lib.Seq.{length-take-le}
use Rattle.lent_runs.proofs.print_lines.Goals as goal

pub slice_bounds-runner_output-end : goal.slice_bounds-runner_output-end
slice_bounds-runner_output-end c = sym (length-take-le _ _ (search rules))

pub runner_output-k-requires : goal.runner_output-k-requires
runner_output-k-requires c =
    omega (arith, length-take-le c.args.r.printed c.args.prints.now c.requires.0, c.requires.1)
