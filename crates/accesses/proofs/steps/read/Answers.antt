use Rattle.accesses.specs.Gathering.{read_in}
use Rattle.accesses.proofs.steps.read.Goals as goal

pub returns : goal.returns
unfolding read_in
returns c = cc
