-- The rest of the chain decides as the whole does.
use mathlib.Core.Path.{◌≡◌}
use Rattle.language.specs.Lists.{all}
use Rattle.language.specs.File.{types}
use Rattle.chains.specs.Formed.{Stands, types_at, ahead}
use Rattle.declarations.specs.Types.{type_fits}
use Rattle.declarations.proofs.types.each_type_ok.Given as goal

abbrev pub invariant-loop-i : goal.invariant-loop-i
invariant-loop-i l = Stands l.file types l.i × (all (type_fits l.n) (types_at l.file l.i) ≡ all (type_fits l.n) (types_at l.file l.start))

abbrev pub decreases-loop-i : goal.decreases-loop-i
decreases-loop-i l = ahead l.file l.i
