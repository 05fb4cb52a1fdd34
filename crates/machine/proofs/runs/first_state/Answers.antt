use Rattle.machine.proofs.RunsLaws.{first_state_law}
use Rattle.machine.proofs.runs.first_state.Goals as goal

pub returns : goal.returns
returns c = first_state_law _ _ c.body_of.ensures
