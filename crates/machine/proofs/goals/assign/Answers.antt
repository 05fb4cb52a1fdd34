use Rattle.machine.proofs.GoalsLaws.{gives, value_as}
use Rattle.machine.proofs.goals.assign.Goals as goal

pub returns : goal.returns
returns c = gives c.args.at _ _ _ _ c.args.frames.now _ c.give.ensures c.word_in-2.ensures.0 (value_as c.args.at _ _ _ c.args.frames.now c.value-v.ensures c.word_in.ensures.0)
