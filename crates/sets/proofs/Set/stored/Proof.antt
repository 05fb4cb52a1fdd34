use Rattle.sets.proofs.Set.stored.Statement.{statement}
use Rattle.sets.proofs.Set.stored.Tie as tie
use Rattle.sets.specs.Code.{stored_made}

pub stored_spec : {M : Type 1} → statement M
stored_spec = tie.close (tie.spec (λ c. stored_made _))
