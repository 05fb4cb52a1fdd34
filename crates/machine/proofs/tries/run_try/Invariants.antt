-- The condition has come so far, and what is left of it makes the whole.
use mathlib.Core.List.{List}
use Prim.Native.Nat.{ℕ}
use Rattle.plans.specs.Plan.{tables_in}
use Rattle.machine.specs.Words.{onward_to}
use Rattle.machine.proofs.TriesLaws.{Along}
use Rattle.machine.proofs.tries.run_try.Given as goal

abbrev pub invariant-loop-here : goal.invariant-loop-here
invariant-loop-here l =
    (images callees : List ℕ) → Along l.file (tables_in l.plan images callees) (onward_to l.initial.here l.i) l.initial.made l.initial.cells l.initial.regions l.initial.frames l.steps l.from l.own l.log l.made l.cells l.regions l.frames l.here l.count l.left

abbrev pub decreases-loop-here : goal.decreases-loop-here
decreases-loop-here l = l.left
