-- The arms that are not looked at yet decide.
use mathlib.Core.Path.{◌≡◌}
use Rattle.language.specs.File
use Rattle.chains.specs.Formed.{Stands, ahead, edges_at, arms_at}
use Rattle.regions.specs.Here.{arms_in}
use Rattle.regions.specs.Firsts.{Firsts}
use Rattle.regions.proofs.single.arms_ok.Given as goal

abbrev pub invariant-loop-a : goal.invariant-loop-a
invariant-loop-a l =
    Firsts l.file l.firsts × Stands l.file File.arms l.a × (arms_in l.own (edges_at l.file l.edges) (arms_at l.file l.a) ≡ arms_in l.own (edges_at l.file l.edges) (arms_at l.file l.start))

abbrev pub decreases-loop-a : goal.decreases-loop-a
decreases-loop-a l = ahead l.file l.a
