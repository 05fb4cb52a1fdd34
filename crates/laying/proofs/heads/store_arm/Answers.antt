use Rattle.laying.proofs.HeadsLaws.{arm_stored}
use Rattle.std.proofs.Common.{rules}
use Rattle.laying.proofs.heads.store_arm.Goals as goal

pub word-requires : goal.word-requires
word-requires c = search rules

pub word-functor-requires : goal.word-functor-requires
word-functor-requires c = search rules

pub word-a1-requires : goal.word-a1-requires
word-a1-requires c = search rules

pub word-a2-requires : goal.word-a2-requires
word-a2-requires c = search rules

pub word-a3-requires : goal.word-a3-requires
word-a3-requires c = search rules

pub word-a4-requires : goal.word-a4-requires
word-a4-requires c = search rules

pub returns : goal.returns
returns c = search (arm_stored, rules)
