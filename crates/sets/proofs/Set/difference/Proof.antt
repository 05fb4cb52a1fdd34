use borrow.Author.Rules.{rules}
use Rattle.sets.proofs.Set.difference.Statement.{statement}
use Rattle.sets.proofs.Set.difference.Tie as tie
use Rattle.sets.specs.Code.{difference_made}

pub difference_spec : {M : Type 1} → statement M
difference_spec = tie.close (tie.spec (λ c. difference_made _ _ (search rules) (search rules)))
