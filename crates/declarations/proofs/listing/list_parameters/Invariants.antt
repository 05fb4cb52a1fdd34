-- After a turn the links of the records from i on are right.
use Prim.Native.Nat.{◌≤◌}
use Rattle.language.specs.File.{record_count}
use Rattle.declarations.specs.Parameters.{Linked}
use Rattle.declarations.proofs.listing.list_parameters.Given as goal

abbrev pub invariant-loop-i : goal.invariant-loop-i
invariant-loop-i l = Linked l.file l.initial.table l.table l.i × (l.i ≤ record_count l.file)
