use Rattle.windows.specs.Classed.{born_wrong, both_right}
use Rattle.windows.proofs.Classes.right.Goals as goal

pub returns-then-not-is_subset : goal.returns-then-not-is_subset
returns-then-not-is_subset c = λ S h. born_wrong S h c.difference.ensures c.is_subset.ensures c.if-not-is_subset.true

pub returns : goal.returns
returns c = λ S h. both_right S h c.difference.ensures c.is_subset.ensures c.if-not-is_subset.false c.difference-2.ensures c.is_subset-2.ensures
