-- After t turns the functors of the first t types are listed.
use Rattle.language.specs.Format.{header_types}
use Rattle.language.specs.File.{types, word}
use Rattle.chains.specs.Formed.{Stands, ahead}
use Rattle.declarations.proofs.ListingLaws.{ChainLeft}
use Rattle.declarations.proofs.FillingLaws.{FunctorsSo}
use Rattle.declarations.proofs.listing.list_functors.Given as goal

abbrev pub invariant-loop-i : goal.invariant-loop-i
invariant-loop-i l = FunctorsSo l.file l.initial.table l.table l.t × ChainLeft l.file (word l.file 0 header_types) l.t l.i × Stands l.file types l.i

abbrev pub decreases-loop-i : goal.decreases-loop-i
decreases-loop-i l = ahead l.file l.i
