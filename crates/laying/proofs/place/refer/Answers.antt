use Rattle.std.proofs.Common.{arith}
use Rattle.writer.specs.Laid.{linked_none, linked_some}
use Rattle.laying.proofs.place.refer.Goals as goal

pub returns-then-w-eq0 : goal.returns-then-w-eq0
returns-then-w-eq0 c =
    record { small = omega arith; is = λ l. linked_none _ c.if-w-eq0.true }

pub returns-then-c-gt-MAX_RECORDS : goal.returns-then-c-gt-MAX_RECORDS
returns-then-c-gt-MAX_RECORDS c =
    record { small = omega arith; is = λ l. absurd (omega arith) }

pub returns : goal.returns
returns c =
    record { small = omega arith; is = λ l. linked_some _ _ c.if-w-eq0.false }
