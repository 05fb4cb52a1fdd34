use Rattle.profiling.specs.Behind.{opened_made}
use Rattle.profiling.proofs.trying.opened.Goals as goal

pub returns : goal.returns
returns c = opened_made _ _ _ _ _ _ c.onward.ensures c.count_made.ensures
