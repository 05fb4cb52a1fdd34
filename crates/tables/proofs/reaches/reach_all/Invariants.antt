-- What the variables met so far reach, with what those left do, is the whole.
use Rattle.sets.specs.Members.{members}
use Rattle.sets.specs.Gathering.{Gathered}
use Rattle.tables.specs.Window.{reach_in}
use Rattle.tables.proofs.reaches.reach_all.Given as goal

abbrev pub invariant-loop-x : goal.invariant-loop-x
invariant-loop-x l = Gathered (reach_in l.own) l.fn.xs l.found (members l.x-iterator.left)
