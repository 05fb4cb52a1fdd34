use Rattle.declarations.proofs.names.regioned.Goals as goal

pub returns : goal.returns
returns c = rw c.functor.ensures at c.from.ensures
