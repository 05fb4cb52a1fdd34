-- After i turns the first i records have handed down.
use mathlib.Core.Path.{◌≡◌}
use Rattle.owners.specs.Handed.{handed_up_to}
use Rattle.owners.specs.Owner.{owner_by}
use Rattle.owners.proofs.pass.list_owners.Given as goal

abbrev pub invariant-loop-i : goal.invariant-loop-i
invariant-loop-i l = l.owners ≡ handed_up_to owner_by l.file l.i l.initial.owners
