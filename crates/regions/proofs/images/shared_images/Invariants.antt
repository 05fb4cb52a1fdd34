use Rattle.sets.specs.Members.{members}
use Rattle.regions.specs.Pairs.{images_in}
use Rattle.regions.proofs.DoubledLaws.{Seeing}
use Rattle.regions.proofs.images.shared_images.Given as goal

abbrev pub invariant-loop-r : goal.invariant-loop-r
invariant-loop-r l = Seeing (images_in l.images) l.fn.rs l.seen l.twice (members l.r-iterator.left)
