-- The invariant and its laws are in Reading.
use Prim.Native.Nat.{◌-◌}
use mathlib.Core.Path.{◌≡◌}
use Rattle.sets.specs.Sets.{◌∖◌, loaded}
use Rattle.sets.specs.Members.{next_member}
use Rattle.sets.specs.Size.{size}
use Rattle.language.specs.Format.{max_regions}
use Rattle.windows.specs.Targets.{set_at}
use Rattle.windows.specs.Reading.{Reading}
use Rattle.windows.proofs.reaching.reach_from.Given as goal

-- u is the lowest region that is found and whose edges are not read
abbrev pub invariant-loop-u : goal.invariant-loop-u
invariant-loop-u l = Reading (set_at l.targets) l.r l.found (loaded l.read) × (l.u ≡ next_member (l.found ∖ loaded l.read) 0)

abbrev pub decreases-loop-u : goal.decreases-loop-u
decreases-loop-u l = max_regions - size (loaded l.read)
