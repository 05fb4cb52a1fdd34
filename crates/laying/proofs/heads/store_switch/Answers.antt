use Rattle.laying.proofs.HeadsLaws.{switch_stored}
use Rattle.std.proofs.Common.{rules}
use Rattle.laying.proofs.heads.store_switch.Goals as goal

pub word-requires : goal.word-requires
word-requires c = search rules

pub word-x-requires : goal.word-x-requires
word-x-requires c = search rules

pub returns : goal.returns
returns c = search (switch_stored, rules)
