use Rattle.std.proofs.Common.{arith}
use Rattle.lines.specs.Answers.{front_accepted, front_refused}
use Rattle.lines.proofs.answers.checker_output.Goals as goal

pub returns-in-Ok : goal.returns-in-Ok
returns-in-Ok c = front_accepted _ c.in-Ok.is (omega arith) c.put_text.ensures

pub returns-in-Err : goal.returns-in-Err
returns-in-Err c = front_refused _ _ c.in-Err.is (omega arith) c.put_refusal.ensures
