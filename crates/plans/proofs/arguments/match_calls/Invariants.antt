-- The pass from record i on is still to do.
use Rattle.plans.specs.Passes.{placed_at}
use Rattle.plans.specs.Turns.{Pass}
use Rattle.plans.proofs.arguments.match_calls.Given as goal

abbrev pub invariant-loop-i : goal.invariant-loop-i
invariant-loop-i l = Pass l.file (placed_at l.file) l.n l.initial.plan l.i l.plan
