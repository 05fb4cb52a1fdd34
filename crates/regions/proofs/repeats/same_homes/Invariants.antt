-- Where the rest is in the same regions, so is the whole.
use mathlib.Core.Path.{◌≡◌}
use Rattle.language.specs.File
use Rattle.chains.specs.Formed.{Stands, ahead, arguments_at}
use Rattle.regions.specs.CallMap.{homes_in}
use Rattle.regions.proofs.repeats.same_homes.Given as goal

abbrev pub invariant-loop-x : goal.invariant-loop-x
invariant-loop-x l =
    Stands l.file File.arguments l.x × Stands l.file File.arguments l.y
    × (homes_in l.own (arguments_at l.file l.x) ≡ homes_in l.own (arguments_at l.file l.y) → homes_in l.own (arguments_at l.file l.a) ≡ homes_in l.own (arguments_at l.file l.b))

abbrev pub decreases-loop-x : goal.decreases-loop-x
decreases-loop-x l = ahead l.file l.x
