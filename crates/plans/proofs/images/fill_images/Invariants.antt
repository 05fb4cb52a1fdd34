-- The pass from record i on is still to do, `at` counts the images of the calls before it, those of the last stand in `found`, and every byte is 0 or
-- a region's number.
use mathlib.Core.Path.{◌≡◌}
use Rattle.plans.specs.Passes.{Regional, images_before, pictured_at}
use Rattle.plans.specs.Images.{LastCall}
use Rattle.plans.specs.Turns.{Pass}
use Rattle.plans.proofs.images.fill_images.Given as goal

abbrev pub invariant-loop-i : goal.invariant-loop-i
invariant-loop-i l =
    Pass l.file (pictured_at l.file) l.records l.initial.images l.i l.images × (l.at ≡ images_before l.file l.i) × LastCall l.file l.last l.found × Regional l.images
