use Rattle.declarations.proofs.LookupLaws.{functor_past, functor_there}
use Rattle.declarations.proofs.names.functor.Goals as goal

pub returns-then-t-ge-PLACES : goal.returns-then-t-ge-PLACES
returns-then-t-ge-PLACES c = functor_past _ _ _ c.if-t-ge-PLACES.true

pub returns : goal.returns
returns c = functor_there _ _ _ c.if-t-ge-PLACES.false c.place.ensures
