use Rattle.memory.proofs.Ways.{cell_full, cell_made}
use Rattle.std.proofs.Common.{rules}
use Rattle.memory.proofs.places.take_cell.Goals as goal

pub returns-in_err-cell : goal.returns-in_err-cell
returns-in_err-cell c = search (cell_full, rules)

pub returns : goal.returns
returns c = search (cell_made, rules)
