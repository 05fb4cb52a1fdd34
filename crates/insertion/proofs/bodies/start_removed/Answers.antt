use Rattle.insertion.proofs.BodiesLaws.{start_removed}
use Rattle.insertion.proofs.bodies.start_removed.Goals as goal

pub returns : goal.returns
returns c =
    start_removed _ c.set_at-kept.ensures c.set_at.ensures c.union-held.ensures c.wanted_in.ensures c.difference.ensures
