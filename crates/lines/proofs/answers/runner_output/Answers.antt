use Prim.Native.Nat.{◌*◌}
use Rattle.std.proofs.Common.{arith}
use lib.ListN.{length}
use Rattle.lines.specs.Widths.{number_bytes}
use Rattle.lines.specs.Answers.{front_run}
use Rattle.lines.proofs.answers.runner_output.Goals as goal

pub returns : goal.returns
returns c =
    front_run c.args.ending c.args.steps (number_bytes * length c.args.words.now) (omega arith) (omega arith) (omega (arith, c.put_numbers-end.ensures.upper_bound)) c.put_numbers-end.ensures.put c.put_ending.ensures
