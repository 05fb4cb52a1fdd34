use Rattle.laying.proofs.HeadsLaws.{if_stored}
use Rattle.std.proofs.Common.{rules}
use Rattle.laying.proofs.heads.store_if.Goals as goal

pub word-requires : goal.word-requires
word-requires c = search rules

pub word-y-requires : goal.word-y-requires
word-y-requires c = search rules

pub word-z-requires : goal.word-z-requires
word-z-requires c = search rules

pub returns : goal.returns
returns c = search (if_stored, rules)
