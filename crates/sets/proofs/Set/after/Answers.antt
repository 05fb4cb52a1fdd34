use Rattle.std.proofs.Common.{arith}
use Rattle.sets.proofs.Set.after.Goals as goal
use Rattle.sets.specs.Code.{after_low, after_here}
use Rattle.sets.specs.Walk.{next_eq}

pub returns-then-n-ge-GREATEST : goal.returns-then-n-ge-GREATEST
returns-then-n-ge-GREATEST c =
    next_eq _ _ _
    (record { low = omega arith; top = omega arith; none = λ k h l. absurd (omega arith); found = λ h. absurd (omega arith) })

pub returns-then-found-lt-NONE : goal.returns-then-found-lt-NONE
returns-then-found-lt-NONE c =
    let a = c.args in
    next_eq _ _ _ (record { low = omega arith; top = omega arith; none = after_low _ _; found = λ h. after_here a.self a.n (omega arith) })

pub returns-else-found-lt-NONE : goal.returns-else-found-lt-NONE
returns-else-found-lt-NONE c =
    let a = c.args in
    next_eq _ _ _
    (record {
      low = omega arith;
      top = omega arith;
      none = λ k h l. after_low a.self a.n k h (omega arith);
      found = λ h. absurd (omega arith);
    })
