use mathlib.Core.Path.{◌≡◌}
use lib.ListN.{length}
use Rattle.language.specs.Format.{places}
use Rattle.chains.specs.Formed.{ahead}
use Rattle.windows.specs.Listing.{Listing}
use Rattle.windows.proofs.stage.list_procedures.Given as goal

abbrev pub invariant-loop-i : goal.invariant-loop-i
invariant-loop-i l = Listing l.file l.initial.table l.table l.right l.i l.q l.at × (length l.table ≡ length l.initial.table) × (places ≡ length l.targets)

abbrev pub decreases-loop-i : goal.decreases-loop-i
decreases-loop-i l = ahead l.file l.i
