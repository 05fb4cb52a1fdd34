-- A loop over the members.
use Rattle.sets.specs.Members.{members}
use Rattle.laying.proofs.MarksLaws.{Marking}
use Rattle.laying.proofs.marks.lay_marks.Given as goal

abbrev pub invariant-loop-r : goal.invariant-loop-r
invariant-loop-r l =
    Marking l.initial.out l.out l.kind l.fn.s l.on l.first (members l.r-iterator.left) l.at
