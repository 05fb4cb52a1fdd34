-- What the arguments from the next one on still get.
use Prim.Native.Nat.{◌<◌}
use mathlib.Core.Path.{◌≡◌}
use lib.ListN.{length}
use Rattle.language.specs.Format.{term_arguments}
use Rattle.language.specs.File.{word}
use Rattle.machine.proofs.Terms.{given_from}
use Rattle.machine.proofs.arms.arm_values.Given as goal

abbrev pub invariant-loop-n : goal.invariant-loop-n
invariant-loop-n g l = (given_from l.file l.j l.cell l.at l.cells l.n l.frames ≡ given_from l.file l.j l.cell l.at l.cells 0 l.initial.frames) × (length l.frames ≡ length l.initial.frames) × (0 < l.n → word l.file l.j term_arguments ≡ 0 → ⊥)
