-- What is left of the two chains decides as the whole does.
use mathlib.Core.Bool.{true}
use mathlib.Core.Path.{◌≡◌}
use Prim.Native.Nat.{◌+◌, ◌<◌}
use Rattle.language.specs.Format.{max_records}
use Rattle.language.specs.Lists.{all}
use Rattle.language.specs.File.{functors, edges}
use Rattle.declarations.specs.Own.{declared}
use Rattle.language.specs.Answers.{program}
use Rattle.language.specs.Typing.{functor_ok, places_from, edges_ok}
use Rattle.chains.specs.Formed.{Stands, functors_at, edges_at, ahead}
use Rattle.declarations.proofs.edges.edges_ok.Given as goal

abbrev pub invariant-loop-i : goal.invariant-loop-i
invariant-loop-i l = (Stands l.file functors l.i × (all (functor_ok (program l.file).types) (functors_at l.file l.i) ≡ true)) × Stands l.file edges l.e × (l.g + ahead l.file l.i < max_records) × (edges_ok (program l.file).types (declared l.file l.own) (places_from (program l.file).types l.g (functors_at l.file l.i)) (edges_at l.file l.e) ≡ edges_ok (program l.file).types (declared l.file l.own) (places_from (program l.file).types 0 (functors_at l.file l.start)) (edges_at l.file l.first))

abbrev pub decreases-loop-i : goal.decreases-loop-i
decreases-loop-i l = ahead l.file l.i
