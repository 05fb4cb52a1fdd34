use Rattle.accesses.proofs.steps.sum_access.Goals as goal

pub returns : goal.returns
returns c = cc
