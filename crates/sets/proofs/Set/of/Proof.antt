use borrow.Author.Rules.{rules}
use Rattle.sets.proofs.Set.of.Statement.{statement}
use Rattle.sets.proofs.Set.of.Tie as tie
use Rattle.sets.specs.Code.{of_low, of_high, of_made}

pub of_spec : {M : Type 1} → statement M
of_spec =
    tie.close
    (tie.spec (λ c. of_low _ (search rules)) (λ c. of_high _ (search rules)) (search rules) (λ c. of_made _ (search rules) (search rules)))
