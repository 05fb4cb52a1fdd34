use Rattle.values.proofs.Entry.{Local}
use Rattle.chains.specs.Formed.{Stands, ahead, variables_at}
use Rattle.language.specs.File.{variables}
use Rattle.values.proofs.declared.all_local.Given as goal

abbrev pub invariant-loop-i : goal.invariant-loop-i
invariant-loop-i l = Stands l.file variables l.i × Local (variables_at l.file l.start) (variables_at l.file l.i)

abbrev pub decreases-loop-i : goal.decreases-loop-i
decreases-loop-i l = ahead l.file l.i
