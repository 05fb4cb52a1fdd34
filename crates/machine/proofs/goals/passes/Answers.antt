use Rattle.machine.proofs.GoalsLaws.{value_as, passes_as}
use Rattle.machine.proofs.goals.passes.Goals as goal

pub returns : goal.returns
returns c = passes_as _ _ _ _ _ c.less_words.ensures (value_as c.args.at _ _ _ c.args.frames.now c.value-y.ensures c.word_in.ensures.0) (value_as c.args.at _ _ _ c.args.frames.now c.value-z.ensures c.word_in-2.ensures.0)
