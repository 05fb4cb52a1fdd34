use mathlib.Core.Path.{sym}
use lib.ListN.{get_or-eq_default}
use Rattle.regions.proofs.repeats.owner_of.Goals as goal

pub returns-else-i-owners : goal.returns-else-i-owners
returns-else-i-owners c = sym (get_or-eq_default c.args.owners.now 0 c.if-i-owners.false)
