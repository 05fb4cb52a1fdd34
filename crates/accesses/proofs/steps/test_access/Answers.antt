use Rattle.accesses.proofs.steps.test_access.Goals as goal

pub returns : goal.returns
returns c = cc
