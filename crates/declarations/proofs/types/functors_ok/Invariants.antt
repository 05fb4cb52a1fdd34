-- The rest of the chain decides as the whole does.
use mathlib.Core.Path.{◌≡◌}
use Rattle.language.specs.Lists.{all}
use Rattle.language.specs.File.{functors}
use Rattle.chains.specs.Formed.{Stands, functors_at, ahead}
use Rattle.declarations.specs.Types.{functor_fits}
use Rattle.declarations.proofs.types.functors_ok.Given as goal

abbrev pub invariant-loop-i : goal.invariant-loop-i
invariant-loop-i l = Stands l.file functors l.i × (all (functor_fits l.n) (functors_at l.file l.i) ≡ all (functor_fits l.n) (functors_at l.file l.start))

abbrev pub decreases-loop-i : goal.decreases-loop-i
decreases-loop-i l = ahead l.file l.i
