use mathlib.Core.Path.{◌≡◌}
use lib.ListN.{length}
use Rattle.language.specs.File
use Rattle.chains.specs.Formed.{ahead}
use Rattle.windows.specs.Along.{Along}
use Rattle.windows.specs.Parts.{VariablesListed}
use Rattle.windows.proofs.writing.list_variables.Given as goal

abbrev pub invariant-loop-i : goal.invariant-loop-i
invariant-loop-i l =
    Along l.file File.variables l.first l.i l.n × VariablesListed l.file l.first l.reaches l.initial.table l.from l.n l.table × (length l.table ≡ length l.initial.table)

abbrev pub decreases-loop-i : goal.decreases-loop-i
decreases-loop-i l = ahead l.file l.i
