use Rattle.regions.specs.Pairs.{images_in}
use Rattle.sets.specs.Sets.{single}
use Rattle.sets.specs.Members.{members}
use Rattle.sets.specs.Gathering.{Gathered}
use Rattle.regions.proofs.images.images_of.Given as goal

abbrev pub invariant-loop-r : goal.invariant-loop-r
invariant-loop-r l = Gathered (λ q. single (images_in l.images q)) l.fn.rs l.found (members l.r-iterator.left)
