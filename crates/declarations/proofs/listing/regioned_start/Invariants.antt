-- The rest of the chain decides as the whole does.
use mathlib.Core.Path.{◌≡◌}
use Rattle.language.specs.File.{functors}
use Rattle.chains.specs.Formed.{Stands, ahead}
use Rattle.declarations.specs.Regioned.{constants_at}
use Rattle.declarations.proofs.listing.regioned_start.Given as goal

abbrev pub invariant-loop-i : goal.invariant-loop-i
invariant-loop-i l = Stands l.file functors l.i × (constants_at l.file l.i ≡ constants_at l.file l.start)

abbrev pub decreases-loop-i : goal.decreases-loop-i
decreases-loop-i l = ahead l.file l.i
