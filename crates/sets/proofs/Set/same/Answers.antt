use Rattle.sets.specs.Sets.{same_set}
use Rattle.sets.proofs.Set.same.Goals as goal

pub returns : goal.returns
unfolding same_set
returns c = c.eq.ensures
