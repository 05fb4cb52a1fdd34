use Rattle.sets.proofs.Set.loaded.Statement.{statement}
use Rattle.sets.proofs.Set.loaded.Tie as tie
use Rattle.sets.specs.Code.{loaded_made}

pub loaded_spec : {M : Type 1} → statement M
loaded_spec = tie.close (tie.spec (λ c. loaded_made _))
