use Rattle.machine.proofs.GoalsLaws.{onto_as}
use Rattle.std.proofs.Common.{rules}
use Rattle.machine.proofs.opened.then_goal.Goals as goal

pub word_in-requires : goal.word_in-requires
word_in-requires c = search rules

pub successor-requires : goal.successor-requires
successor-requires c = search rules

pub onto-requires : goal.onto-requires
onto-requires c = search rules

pub returns : goal.returns
returns c = onto_as _ _ _ _ _ c.onto.ensures c.word_in.ensures.0 c.successor.ensures
