-- What is still to be put into the cell is what the arguments from the next one on say.
use mathlib.Core.Path.{◌≡◌}
use lib.ListN.{length}
use Rattle.machine.proofs.Terms.{poured_from}
use Rattle.machine.proofs.cells.fill.Given as goal

abbrev pub invariant-loop-n : goal.invariant-loop-n
invariant-loop-n g l = (poured_from l.file l.i l.at l.frames l.cell l.n l.cells ≡ poured_from l.file l.i l.at l.frames l.cell 0 l.initial.cells) × (length l.cells ≡ length l.initial.cells)
