use native.Mathlib.Omega.{arith}
use borrow.Author.Rules.{rules}
use Rattle.sets.proofs.Set.without_lowest.Statement.{statement}
use Rattle.sets.proofs.Set.without_lowest.Tie as tie
use Rattle.sets.specs.Code.{some_bits, rest_made}
use Rattle.sets.specs.Lowest.{lowest_low}
use Rattle.sets.specs.Members.{next_member}
use Rattle.sets.specs.Sets.{small_of_bits}
use Rattle.sets.specs.Walk.{next_is}

returns : tie.Need-returns
returns c =
    let s = c.before.before.args.self in
    rest_made s (next_member s 0) (next_is s 0) (lowest_low s (small_of_bits s (search rules)) c.before.before.requires)

pub without_lowest_spec : {M : Type 1} → statement M
without_lowest_spec = tie.close (tie.spec (λ c. omega (arith, some_bits _ c.before.requires)) returns)
