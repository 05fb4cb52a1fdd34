use Rattle.laying.proofs.HeadsLaws.{three_stored}
use Rattle.std.proofs.Common.{rules}
use Rattle.laying.proofs.heads.store_procedure.Goals as goal

pub word-requires : goal.word-requires
word-requires c = search rules

pub returns : goal.returns
returns c = search (three_stored, rules)
