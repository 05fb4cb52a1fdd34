use mathlib.Core.Path.{◌∙◌}
use Rattle.plans.specs.Onward.{procedure_onward, switch_onward, if_onward, try_onward, other_onward}
use Rattle.plans.proofs.onward.parts_onward.Goals as goal

pub returns-in-4 : goal.returns-in-4
returns-in-4 c = procedure_onward _ _ _ c.in-4.is

pub returns-in-12 : goal.returns-in-12
returns-in-12 c = c.onto.ensures ∙ switch_onward _ _ _ c.in-12.is

pub returns-in-14 : goal.returns-in-14
returns-in-14 c = c.onto-in-14.ensures ∙ if_onward _ _ _ c.in-14.is

pub returns-in-20 : goal.returns-in-20
returns-in-20 c = c.onto-in-20.ensures ∙ try_onward _ _ _ c.in-20.is

pub returns-in_default : goal.returns-in_default
returns-in_default c = let r = c.in_default.in_default-own.rest in other_onward _ _ _ r.0.0.0.1 r.0.0.1 r.0.1 r.1
