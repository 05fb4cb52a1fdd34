use Rattle.machine.proofs.GoalsLaws.{part_then, part_else, value_as}
use Rattle.machine.proofs.goals.part_of.Goals as goal

pub returns-then-less_words : goal.returns-then-less_words
returns-then-less_words c = part_then _ _ _ _ _ _ _ _ c.less_words.ensures (value_as c.args.at _ _ _ c.args.frames.now c.value-y.ensures c.word_in.ensures.0) (value_as c.args.at _ _ _ c.args.frames.now c.value-z.ensures c.word_in-2.ensures.0) c.if-less_words.true c.word_in-then-less_words.ensures.0

pub returns-else-less_words : goal.returns-else-less_words
returns-else-less_words c = part_else _ _ _ _ _ _ _ _ c.less_words.ensures (value_as c.args.at _ _ _ c.args.frames.now c.value-y.ensures c.word_in.ensures.0) (value_as c.args.at _ _ _ c.args.frames.now c.value-z.ensures c.word_in-2.ensures.0) c.if-less_words.false c.word_in-else-less_words.ensures.0
