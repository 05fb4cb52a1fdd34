-- The pass from record i on is still to do, and `at` counts the images of the calls before it.
use mathlib.Core.Path.{◌≡◌}
use Rattle.plans.specs.Passes.{images_before, sided_at}
use Rattle.plans.specs.Turns.{Pass}
use Rattle.plans.proofs.sides.fill_sides.Given as goal

abbrev pub invariant-loop-i : goal.invariant-loop-i
invariant-loop-i l = Pass l.file (sided_at l.file) l.n l.initial.plan l.i l.plan × (l.at ≡ images_before l.file l.i)
