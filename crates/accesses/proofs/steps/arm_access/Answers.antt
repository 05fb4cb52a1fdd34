use Rattle.language.specs.Program.{four_words}
use Rattle.accesses.specs.Gathering.{four_given, give_all}
use Rattle.accesses.proofs.steps.arm_access.Goals as goal

pub returns : goal.returns
unfolding four_given give_all four_words
returns c = cc
