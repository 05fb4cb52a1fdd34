-- The laws of the table of images are in Pairs; the places without an image fall in number.
use Prim.Native.Nat.{◌*◌, ◌+◌}
use mathlib.Core.Path.{◌≡◌}
use lib.ListN.{length}
use Rattle.language.specs.File.{edges}
use Rattle.language.specs.Regions.{targets_in}
use Rattle.chains.specs.Formed.{Stands, ahead, edges_at}
use Rattle.regions.specs.Pairs.{Grown}
use Rattle.regions.proofs.PairsLaws.{zeros, RestMapped}
use Rattle.regions.proofs.pairs.+map_edges_map_region.Given as goal

abbrev pub decreases-map_edges : goal.decreases-map_edges
decreases-map_edges l = 2 * zeros l.images.now + 1

abbrev pub invariant-map_edges-loop-i : goal.invariant-map_edges-loop-i
invariant-map_edges-loop-i l =
    Stands l.file edges l.i × Stands l.file edges l.j × (length l.images ≡ length l.initial.images) × Grown l.initial.images l.images
    × RestMapped l.file l.own l.callee (targets_in (edges_at l.file l.from)) (targets_in (edges_at l.file l.onto)) l.initial.images (targets_in (edges_at l.file l.i)) (targets_in (edges_at l.file l.j)) l.images

abbrev pub decreases-map_edges-loop-i : goal.decreases-map_edges-loop-i
decreases-map_edges-loop-i l = ahead l.file l.i

abbrev pub decreases-map_region : goal.decreases-map_region
decreases-map_region l = 2 * zeros l.images.now
