-- What the rest of the chain has for the functor is what the whole has.
use Prim.Native.Nat.{ℕ}
use mathlib.Core.Path.{◌≡◌}
use Rattle.language.specs.File.{edges}
use Rattle.language.specs.Regions.{target_for}
use Rattle.chains.specs.Formed.{Stands, ahead, edges_at}
use Rattle.regions.proofs.terms.edges_for.Given as goal

abbrev pub invariant-loop-i : goal.invariant-loop-i
invariant-loop-i l = Stands l.file edges l.i × ((k : ℕ) → target_for (edges_at l.file l.i) l.f k ≡ target_for (edges_at l.file l.start) l.f k)

abbrev pub decreases-loop-i : goal.decreases-loop-i
decreases-loop-i l = ahead l.file l.i
