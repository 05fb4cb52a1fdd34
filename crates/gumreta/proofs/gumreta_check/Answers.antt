use Rattle.gumreta.specs.Numbers.{checker_refuses, checker_accepts}
use Rattle.gumreta.proofs.gumreta_check.Goals as goal

pub returns-in-Ok : goal.returns-in-Ok
returns-in-Ok c = checker_accepts c.check.ensures.value c.in-Ok.is

pub returns-in-Err : goal.returns-in-Err
returns-in-Err c = checker_refuses c.from.ensures c.check.ensures.value c.in-Err.is
