use mathlib.Core.Path.{refl, ◌∙◌}
use Rattle.declarations.proofs.LookupLaws.{functor_first}
use Rattle.declarations.proofs.names.first_functor.Goals as goal

pub returns : goal.returns
returns c = c.from.ensures ∙ functor_first _ _ _ c.requires refl
