use mathlib.Core.Path.{◌≡◌}
use lib.ListN.{length}
use Rattle.language.specs.File
use Rattle.chains.specs.Formed.{ahead}
use Rattle.windows.specs.Along.{Along}
use Rattle.windows.specs.Parts.{RegionsListed}
use Rattle.windows.proofs.writing.list_regions.Given as goal

abbrev pub invariant-loop-i : goal.invariant-loop-i
invariant-loop-i l =
    Along l.file File.regions l.first l.i l.n × RegionsListed l.file l.first l.initial.table l.from l.n l.table l.targets × (length l.table ≡ length l.initial.table) × (length l.targets ≡ length l.initial.targets)

abbrev pub decreases-loop-i : goal.decreases-loop-i
decreases-loop-i l = ahead l.file l.i
