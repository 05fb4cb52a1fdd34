use Rattle.accesses.proofs.steps.print_access.Goals as goal

pub returns : goal.returns
returns c = cc
