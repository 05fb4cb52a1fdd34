use native.Mathlib.Omega.{arith}
use lib.Count.{trailing_le}
use mathlib.Core.Path.{refl}
use Rattle.sets.proofs.Set.lowest.Statement.{statement}
use Rattle.sets.proofs.Set.lowest.Tie as tie
use Rattle.sets.specs.Code.{lowest_next}
use Rattle.sets.specs.Walk.{next_eq}

pub lowest_spec : {M : Type 1} → statement M
lowest_spec =
    tie.close
    (tie.spec (λ c. omega (arith, trailing_le 64 c.before.args.self.bits)) (λ c. omega (arith, trailing_le 64 c.before.args.self.bits))
    (λ c. next_eq _ _ _ (lowest_next _ _ refl)))
