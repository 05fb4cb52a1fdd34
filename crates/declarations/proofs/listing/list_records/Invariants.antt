-- After n turns the first n records are listed, and the chain at record i is what is left.
use Prim.Native.Nat.{◌<◌}
use Rattle.language.specs.File.{record_count}
use Rattle.chains.specs.Formed.{ahead}
use Rattle.declarations.proofs.ListingLaws.{ListsSo, ChainLeft}
use Rattle.declarations.proofs.listing.list_records.Given as goal

abbrev pub invariant-loop-i : goal.invariant-loop-i
invariant-loop-i l = ListsSo l.file l.start l.at l.n l.initial.table l.table × ChainLeft l.file l.start l.n l.i × (l.i < record_count l.file)

abbrev pub decreases-loop-i : goal.decreases-loop-i
decreases-loop-i l = ahead l.file l.i
