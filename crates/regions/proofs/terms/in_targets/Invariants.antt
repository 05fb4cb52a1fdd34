-- The arguments that are not looked at yet decide.
use Prim.Native.Nat.{◌≤◌}
use mathlib.Core.Path.{◌≡◌}
use Rattle.chains.specs.Formed.{edges_at}
use Rattle.regions.proofs.TermsLaws.{rest_in}
use Rattle.regions.proofs.terms.in_targets.Given as goal

abbrev pub invariant-loop-k : goal.invariant-loop-k
invariant-loop-k l =
    (l.k ≤ l.n) × (rest_in l.file l.own (edges_at l.file l.first) l.functor l.i l.n l.k ≡ rest_in l.file l.own (edges_at l.file l.first) l.functor l.i l.n 0)
