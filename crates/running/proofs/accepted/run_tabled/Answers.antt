use Rattle.machine.specs.Joining.{ran_as_defined}
use Rattle.running.specs.Answer.{accepted_typed}
use Rattle.running.proofs.accepted.run_tabled.Goals as goal

pub run_words-requires : goal.run_words-requires
run_words-requires c = ((accepted_typed c.requires.accepted).0, c.requires.narrow, c.requires.numbered)

pub returns : goal.returns
returns c = ran_as_defined _ c.requires.accepted _ c.requires.tabled _ _ _ _ _ _ _ _ _ _ c.run_words.ensures
