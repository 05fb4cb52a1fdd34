use borrow.Author.Rules.{rules}
use Rattle.sets.proofs.Set.is_subset.Statement.{statement}
use Rattle.sets.proofs.Set.is_subset.Tie as tie
use Rattle.sets.specs.Code.{subset_made}

pub is_subset_spec : {M : Type 1} → statement M
is_subset_spec = tie.close (tie.spec (search rules) (search rules) (λ c. cc (subset_made _ _)))
