-- What is gathered so far and what the parameters left would take make the whole.
use Rattle.sets.specs.Members.{members}
use Rattle.accesses.proofs.Turning.{ArgumentsGoing}
use Rattle.accesses.proofs.calls.match_arguments.Given as goal

abbrev pub invariant-loop-x : goal.invariant-loop-x
invariant-loop-x l = ArgumentsGoing l.file l.ins l.fn.outs l.fn.y0 l.a (members l.x-iterator.left) l.y
