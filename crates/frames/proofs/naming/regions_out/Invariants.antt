-- What is still to be copied is what the members left say.
use mathlib.Core.Path.{◌≡◌}
use lib.ListN.{length}
use Rattle.sets.specs.Members.{members}
use Rattle.sets.specs.Sets.{Small}
use Rattle.sets.specs.Size.{size}
use Rattle.frames.specs.Naming.{named_out}
use Rattle.frames.proofs.naming.regions_out.Given as goal

abbrev pub invariant-loop-left : goal.invariant-loop-left
invariant-loop-left l = (named_out l.images l.side l.at (members l.left) l.frames ≡ named_out l.images l.side l.at (members l.initial.left) l.initial.frames) × (length l.frames ≡ length l.initial.frames) × Small l.left

abbrev pub decreases-loop-left : goal.decreases-loop-left
decreases-loop-left l = size l.left
