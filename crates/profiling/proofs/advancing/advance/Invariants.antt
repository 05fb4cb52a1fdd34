use Prim.Native.Nat.{◌-◌}
use Rattle.plans.specs.Plan.{tables_in}
use Rattle.profiling.specs.Advancing.{Under}
use Rattle.profiling.proofs.advancing.advance.Given as goal

abbrev pub invariant-loop-out : goal.invariant-loop-out
invariant-loop-out l =
    Under l.file (tables_in l.plan l.images l.callees) l.steps l.initial.cells l.initial.regions l.initial.frames l.initial.prints l.initial.here l.initial.out l.cells l.regions l.frames l.prints l.log l.own l.out l.here l.at

abbrev pub decreases-loop-out : goal.decreases-loop-out
decreases-loop-out l = l.steps - l.here.done
