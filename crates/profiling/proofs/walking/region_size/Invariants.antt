-- The cells passed and those still to come make the region's.
use Rattle.profiling.specs.Walking.{CellsPassed}
use Rattle.profiling.proofs.walking.region_size.Given as goal

abbrev pub invariant-loop-n : goal.invariant-loop-n
invariant-loop-n l = CellsPassed l.cells l.last l.limit l.initial.cell l.n l.cell
