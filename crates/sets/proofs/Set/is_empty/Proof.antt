use Rattle.sets.proofs.Set.is_empty.Statement.{statement}
use Rattle.sets.proofs.Set.is_empty.Tie as tie
use Rattle.sets.specs.Code.{same_made}
use Rattle.sets.specs.Sets.{empty_set}

pub is_empty_spec : {M : Type 1} → statement M
is_empty_spec = tie.close (tie.spec (λ c. same_made _ empty_set))
