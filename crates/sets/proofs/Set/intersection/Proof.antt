use Rattle.sets.proofs.Set.intersection.Statement.{statement}
use Rattle.sets.proofs.Set.intersection.Tie as tie
use Rattle.sets.specs.Code.{intersection_made}

pub intersection_spec : {M : Type 1} → statement M
intersection_spec = tie.close (tie.spec (λ c. intersection_made _ _))
