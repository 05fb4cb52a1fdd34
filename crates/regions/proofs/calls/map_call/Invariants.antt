-- The rest of the parameters against the rest of the arguments, from the images so far, gives the whole mapping.
use mathlib.Core.Path.{◌≡◌}
use lib.ListN.{length}
use Rattle.language.specs.File
use Rattle.chains.specs.Formed.{Stands, ahead, variables_at, arguments_at}
use Rattle.regions.specs.Pairs.{Grown}
use Rattle.regions.proofs.PairsLaws.{RestMapped}
use Rattle.regions.specs.CallMap.{homes_in}
use Rattle.regions.proofs.CallMapLaws.{regions_of_parameters}
use Rattle.regions.proofs.calls.map_call.Given as goal

abbrev pub invariant-loop-x : goal.invariant-loop-x
invariant-loop-x l =
    Stands l.file File.variables l.x × Stands l.file File.arguments l.a × (length l.images ≡ length l.initial.images) × Grown l.initial.images l.images
    × RestMapped l.file l.own l.callee (regions_of_parameters (variables_at l.file l.initial.x)) (homes_in l.own (arguments_at l.file l.arguments)) l.initial.images
    (regions_of_parameters (variables_at l.file l.x)) (homes_in l.own (arguments_at l.file l.a)) l.images

abbrev pub decreases-loop-x : goal.decreases-loop-x
decreases-loop-x l = ahead l.file l.x
