-- The rest of the variables and arguments gives the whole.
use Rattle.chains.specs.Formed.{ahead}
use Rattle.plans.specs.Arguments.{Walked}
use Rattle.plans.proofs.arguments.match_call.Given as goal

abbrev pub invariant-loop-x : goal.invariant-loop-x
invariant-loop-x l = Walked l.file l.initial.x l.arguments l.initial.plan l.x l.k l.a l.plan

abbrev pub decreases-loop-x : goal.decreases-loop-x
decreases-loop-x l = ahead l.file l.x
