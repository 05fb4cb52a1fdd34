use mir.Facts.{to_z-of_z}
use Rattle.frames.specs.Laws.{below_range, above_least}
use Rattle.frames.proofs.numbers.in_range.Goals as goal

pub returns-then-sum-ge-LEAST : goal.returns-then-sum-ge-LEAST
returns-then-sum-ge-LEAST c = above_least _ _ (to_z-of_z c.ranges.sum) c.if-sum-ge-LEAST.true

pub returns-else-sum-ge-LEAST : goal.returns-else-sum-ge-LEAST
returns-else-sum-ge-LEAST c = below_range _ _ (to_z-of_z c.ranges.sum) c.if-sum-ge-LEAST.false
