-- What is done so far and the steps still to come make the whole.
use Rattle.plans.specs.Plan.{tables_in}
use Rattle.machine.specs.Runs.{run_first}
use Rattle.machine.proofs.RunsLaws.{Going}
use Rattle.machine.proofs.runs.run_on.Given as goal

abbrev pub invariant-loop-heap : goal.invariant-loop-heap
invariant-loop-heap l =
    Going l.file (tables_in l.plan l.images l.callees) l.steps l.initial.cells l.initial.regions l.initial.frames l.initial.prints (run_first l.file (tables_in l.plan l.images l.callees) l.steps l.initial.heap l.initial.cells l.initial.regions l.initial.frames l.initial.prints l.initial.state) l.left l.heap l.cells l.regions l.frames l.prints l.state

abbrev pub decreases-loop-heap : goal.decreases-loop-heap
decreases-loop-heap l =
    l.left
