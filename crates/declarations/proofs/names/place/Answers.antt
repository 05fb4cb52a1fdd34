use Rattle.declarations.proofs.LookupLaws.{place_past, place_there}
use mathlib.Core.Path.{◌∙◌}
use Rattle.declarations.proofs.names.place.Goals as goal

pub returns-then-most-n : goal.returns-then-most-n
returns-then-most-n c = place_past _ _ _ _ c.if-most-n.true

pub returns : goal.returns
returns c = c.from.ensures ∙ place_there _ _ _ _ c.if-most-n.false
