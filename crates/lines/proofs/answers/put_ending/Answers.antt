use Rattle.std.proofs.Common.{arith}
use Rattle.lines.specs.Answers.{word_digits, end_refused, end_finished, end_stopped}
use Rattle.lines.proofs.answers.put_ending.Goals as goal

pub put_line-requires : goal.put_line-requires
put_line-requires c = omega (arith, word_digits c.args.steps (omega arith))

pub returns-in-Refused : goal.returns-in-Refused
returns-in-Refused c = end_refused _ _ _ c.in-Refused.is c.put_refusal.ensures

pub returns-in-Finished : goal.returns-in-Finished
returns-in-Finished c = end_finished _ _ c.in-Finished.is c.put_line.ensures

pub returns-in-Stopped : goal.returns-in-Stopped
returns-in-Stopped c = end_stopped _ _ _ c.in-Stopped.is c.put_stop.ensures
