use Rattle.memory.proofs.cells.hang_cell.Goals as goal

pub returns : goal.returns
returns c = (cc, cc)
