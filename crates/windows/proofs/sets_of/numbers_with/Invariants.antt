use Rattle.chains.specs.Formed.{ahead}
use Rattle.windows.specs.Numbered.{Numbering}
use Rattle.windows.proofs.sets_of.numbers_with.Given as goal

abbrev pub invariant-loop-i : goal.invariant-loop-i
invariant-loop-i l = Numbering l.file l.start l.k l.v l.found l.i l.n

abbrev pub decreases-loop-i : goal.decreases-loop-i
decreases-loop-i l = ahead l.file l.i
