-- The records below are done, and the rest decides.
use Prim.Native.Nat.{◌<◌}
use Rattle.regions.proofs.RowedLaws.{RowsGoing}
use Rattle.regions.specs.Firsts.{Firsts}
use Rattle.regions.proofs.pass.regions_agree.Given as goal

abbrev pub invariant-loop-i : goal.invariant-loop-i
invariant-loop-i l = RowsGoing l.file l.initial.rows l.rows l.n l.i × (l.last < l.i) × Firsts l.file l.firsts
