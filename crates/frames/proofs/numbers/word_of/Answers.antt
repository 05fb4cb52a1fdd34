use mir.Facts.{to_z-of_z}
use Rattle.frames.specs.Laws.{high_word, low_word}
use Rattle.frames.proofs.numbers.word_of.Goals as goal

pub overflow_cast-result : goal.overflow_cast-result
overflow_cast-result c = (high_word _ _ (to_z-of_z c.ranges.sum) c.requires c.if-sum-ge0.true).0

pub overflow_add-result : goal.overflow_add-result
overflow_add-result c = (low_word _ _ (to_z-of_z c.ranges.sum) c.requires c.if-sum-ge0.false).0

pub overflow_cast-result-else-sum-ge0 : goal.overflow_cast-result-else-sum-ge0
overflow_cast-result-else-sum-ge0 c = (low_word _ _ (to_z-of_z c.ranges.sum) c.requires c.if-sum-ge0.false).1.0

pub returns-then-sum-ge0 : goal.returns-then-sum-ge0
returns-then-sum-ge0 c = (high_word _ _ (to_z-of_z c.ranges.sum) c.requires c.if-sum-ge0.true).1

pub returns-else-sum-ge0 : goal.returns-else-sum-ge0
returns-else-sum-ge0 c = (low_word _ _ (to_z-of_z c.ranges.sum) c.requires c.if-sum-ge0.false).1.1
