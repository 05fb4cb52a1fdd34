-- The images of regions below r are copied.
use Prim.Native.Nat.{◌+◌, ◌-◌, ◌≤◌}
use mathlib.Core.Path.{◌≡◌}
use lib.ListN.{get_or}
use Rattle.plans.specs.Passes.{copied}
use Rattle.plans.proofs.images.copy_images.Given as goal

abbrev pub invariant-loop-r : goal.invariant-loop-r
invariant-loop-r l = (1 ≤ l.r) × (l.r ≤ l.n + 1) × (l.images ≡ copied (λ q. get_or l.found q 0) (l.r - 1) l.at l.initial.images)
