-- What is found so far with what the rest leads to is the whole.
use mathlib.Core.Path.{◌≡◌}
use Rattle.sets.specs.Sets.{◌∪◌}
use Rattle.sets.specs.Members.{set_of}
use Rattle.language.specs.File.{edges}
use Rattle.language.specs.Regions.{targets_in}
use Rattle.chains.specs.Formed.{Stands, ahead, edges_at}
use Rattle.windows.proofs.reaching.targets_of.Given as goal

abbrev pub invariant-loop-i : goal.invariant-loop-i
invariant-loop-i l =
    Stands l.file edges l.i × (l.found ∪ set_of (targets_in (edges_at l.file l.i)) ≡ set_of (targets_in (edges_at l.file l.start)))

abbrev pub decreases-loop-i : goal.decreases-loop-i
decreases-loop-i l = ahead l.file l.i
