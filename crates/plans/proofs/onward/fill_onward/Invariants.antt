-- After i turns the first i records have handed down.
use mathlib.Core.Path.{◌≡◌}
use Rattle.owners.specs.Handed.{handed_up_to}
use Rattle.word_machine.specs.Filling.{onward_by}
use Rattle.plans.proofs.onward.fill_onward.Given as goal

abbrev pub invariant-loop-i : goal.invariant-loop-i
invariant-loop-i l = l.table ≡ handed_up_to (onward_by l.file) l.file l.i l.initial.table
