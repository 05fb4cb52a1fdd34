-- `print_parts` ends: the steps that are left fall.
use Prim.Native.Nat.{◌-◌}
use Rattle.plans.specs.Plan.{tables_in}
use Rattle.running.specs.Lent.{steps_lent}
use Rattle.profile.specs.Parts.{PartsGoing}
use Rattle.profile.proofs.parts.print_parts.Given as goal

abbrev pub invariant-loop-n : goal.invariant-loop-n
invariant-loop-n l =
    PartsGoing l.file (tables_in l.plan l.images l.callees) steps_lent l.initial.cells l.initial.regions l.initial.frames l.initial.prints l.initial.out
    l.cells l.regions l.frames l.prints l.log l.own l.out l.point

abbrev pub decreases-loop-n : goal.decreases-loop-n
decreases-loop-n l = steps_lent - l.point.done
