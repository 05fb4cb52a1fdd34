use Rattle.std.proofs.Common.{arith}
use mathlib.Core.Bool.{false≢true}
use borrow.Author.Tests.{leb-true, leb-false}
use Rattle.laying.proofs.copies.has_room.Goals as goal

pub returns-then-end-gt-MAX_RECORDS : goal.returns-then-end-gt-MAX_RECORDS
returns-then-end-gt-MAX_RECORDS c =
    record { yes_room = λ e. absurd (false≢true e); no_room = λ e l. absurd (omega arith) }

pub returns : goal.returns
returns c =
    record { yes_room = λ e. (omega arith, leb-true _ _ e); no_room = λ e l. leb-false _ _ e }
