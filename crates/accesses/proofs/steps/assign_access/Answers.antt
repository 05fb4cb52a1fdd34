use Rattle.accesses.proofs.steps.assign_access.Goals as goal

pub returns : goal.returns
returns c = cc
