use mathlib.Core.Path.{refl}
use Rattle.machine.specs.Cells.{make_none, make_cell}
use Rattle.machine.proofs.CellsLaws.{home_as, make_constant}
use Rattle.std.proofs.Common.{rules}
use Rattle.machine.proofs.cells.make_term.Goals as goal

pub returns-then-word_in-eq-NO_ARGUMENT : goal.returns-then-word_in-eq-NO_ARGUMENT
returns-then-word_in-eq-NO_ARGUMENT g c = make_constant _ _ _ _ _ _ _ _ _ _ c.word_in.ensures.0 c.if-word_in-eq-NO_ARGUMENT.true c.word_in-then-word_in-eq-NO_ARGUMENT.ensures.0

pub returns-in_err-cell : goal.returns-in_err-cell
returns-in_err-cell g c = rw c.from_residual.ensures (make_none _ _ _ _ _ _ _ _ _ c.word_in.ensures.0 c.if-word_in-eq-NO_ARGUMENT.false _ c.take_cell.ensures c.in_err-cell.was)

pub fill_cell-requires : goal.fill_cell-requires
fill_cell-requires g c = search rules

pub returns : goal.returns
returns g c = make_cell _ _ _ _ _ _ _ _ _ c.word_in.ensures.0 c.if-word_in-eq-NO_ARGUMENT.false _ _ _ c.take_cell.ensures c.in_ok-cell.was _ _ _ _ _ c.fill_cell.ensures (home_as _ _ _ _ _ _ c.region-home.ensures refl) refl c.hang_cell.ensures.0 c.hang_cell.ensures.1
