use Rattle.sets.proofs.Set.union.Statement.{statement}
use Rattle.sets.proofs.Set.union.Tie as tie
use Rattle.sets.specs.Code.{union_made}

pub union_spec : {M : Type 1} → statement M
union_spec = tie.close (tie.spec (λ c. union_made _ _))
