use Rattle.memory.proofs.Ways.{create_full, create_made}
use Rattle.memory.proofs.places.create.Goals as goal

pub returns-in_err-region : goal.returns-in_err-region
returns-in_err-region c = rw c.from_residual.ensures (create_full _ _ _ c.word-link.ensures _ c.take.ensures c.in_err-region.was)

pub returns : goal.returns
returns c = create_made _ _ _ c.word-link.ensures _ c.take.ensures _ _ c.in_ok-region.was _ c.put.ensures
