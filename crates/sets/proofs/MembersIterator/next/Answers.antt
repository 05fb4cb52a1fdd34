-- The least member is taken off.
use Rattle.std.specs.Prelude.{length}
use Rattle.std.proofs.Common.{ap, arith}
use Rattle.sets.proofs.MembersIterator.next.Goals as goal

pub returns-clause-goes : goal.returns-clause-goes
returns-clause-goes c =
    let fewer = ap length c.in_ok-least.ensures in
    record { on = λ _. (tt, tt, omega arith); keeps = tt; rests = λ _. tt }
