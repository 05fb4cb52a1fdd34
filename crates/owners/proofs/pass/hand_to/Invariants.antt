-- The words still to come are in the digits that are left.
use Rattle.owners.proofs.Giving.{Giving}
use Rattle.owners.proofs.pass.hand_to.Given as goal

abbrev pub invariant-loop-left : goal.invariant-loop-left
invariant-loop-left g l = Giving l.file l.i l.fn.table (goal.F-post g l.by) l.left l.table

abbrev pub decreases-loop-left : goal.decreases-loop-left
decreases-loop-left g l = l.left
