-- The rest of the chain decides as the whole does.
use mathlib.Core.Path.{refl, ◌∙◌}
use Rattle.chains.specs.Formed.{functors_none}
use Rattle.chains.specs.Is.{functor_is}
use Rattle.chains.specs.Declared.{functor_at_law}
use Rattle.laws.specs.Lists.{all_end, all_no, all_yes}
use Rattle.declarations.proofs.types.functors_ok.Goals as goal

pub loop-i-init : goal.loop-i-init
loop-i-init c = (c.requires.stands, refl)

pub returns-in_default : goal.returns-in_default
returns-in_default c = absurd (c.in_default.not-Functor _ _ _ _ _ _ (c.record_at.ensures ∙ functor_is c.loop-i.invariant.0 c.loop-i-test.true))

pub returns-then-not-functor_ok : goal.returns-then-not-functor_ok
returns-then-not-functor_ok c = let v = functor_at_law c.requires.formed c.record_at.ensures c.in-Functor.is in all_no _ v.view c.functor_ok.ensures c.if-not-functor_ok.true ∙ c.loop-i.invariant.1

pub loop-i-smaller : goal.loop-i-smaller
loop-i-smaller c = let v = functor_at_law c.requires.formed c.record_at.ensures c.in-Functor.is in v.to_next.falls

pub loop-i-preserved : goal.loop-i-preserved
loop-i-preserved c = let v = functor_at_law c.requires.formed c.record_at.ensures c.in-Functor.is in (v.to_next.stands, all_yes _ v.view c.functor_ok.ensures c.if-not-functor_ok.false ∙ c.loop-i.invariant.1)

pub returns : goal.returns
returns c = all_end _ (functors_none _ c.loop-i-test.false) ∙ c.loop-i.invariant.1
