use Rattle.machine.proofs.CellsLaws.{whole_short, whole_long}
use Rattle.machine.proofs.arms.whole_cell.Goals as goal

pub returns-then-cells-term : goal.returns-then-cells-term
returns-then-cells-term c = whole_short _ _ c.if-cells-term.true

pub returns : goal.returns
returns c = whole_long _ _ c.if-cells-term.false
