use Rattle.accesses.proofs.steps.literal_access.Goals as goal

pub returns : goal.returns
returns c = cc
