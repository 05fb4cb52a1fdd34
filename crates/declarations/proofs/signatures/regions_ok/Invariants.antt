-- The rest of the chain decides as the whole does.
use mathlib.Core.Path.{◌≡◌}
use Rattle.language.specs.Lists.{all}
use Rattle.language.specs.File.{regions}
use Rattle.language.specs.Answers.{program}
use Rattle.language.specs.Typing.{region_ok}
use Rattle.chains.specs.Formed.{Stands, regions_at, ahead}
use Rattle.declarations.specs.Own.{declared}
use Rattle.declarations.proofs.signatures.regions_ok.Given as goal

abbrev pub invariant-loop-i : goal.invariant-loop-i
invariant-loop-i l = Stands l.file regions l.i × (all (region_ok (program l.file).types (declared l.file l.own)) (regions_at l.file l.i) ≡ all (region_ok (program l.file).types (declared l.file l.own)) (regions_at l.file l.start))

abbrev pub decreases-loop-i : goal.decreases-loop-i
decreases-loop-i l = ahead l.file l.i
