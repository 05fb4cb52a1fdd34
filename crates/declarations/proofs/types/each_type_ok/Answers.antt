-- The rest of the chain decides as the whole does.
use mathlib.Core.Path.{refl, ◌∙◌}
use Rattle.chains.specs.Formed.{types_none}
use Rattle.chains.specs.Is.{type_is}
use Rattle.chains.specs.Declared.{type_at}
use Rattle.laws.specs.Lists.{all_end, all_no, all_yes}
use Rattle.declarations.proofs.types.each_type_ok.Goals as goal

pub loop-i-init : goal.loop-i-init
loop-i-init c = (c.requires.stands, refl)

pub returns-in_default : goal.returns-in_default
returns-in_default c = absurd (c.in_default.not-Type _ _ (c.record_at.ensures ∙ type_is c.loop-i.invariant.0 c.loop-i-test.true))

pub type_ok-requires : goal.type_ok-requires
type_ok-requires c = record {
  formed = c.requires.formed;
  stands = (type_at c.requires.formed c.record_at.ensures c.in-Type.is).to_functors.stands;
}

pub returns-then-not-type_ok : goal.returns-then-not-type_ok
returns-then-not-type_ok c = let v = type_at c.requires.formed c.record_at.ensures c.in-Type.is in all_no _ v.view c.type_ok.ensures c.if-not-type_ok.true ∙ c.loop-i.invariant.1

pub loop-i-smaller : goal.loop-i-smaller
loop-i-smaller c = let v = type_at c.requires.formed c.record_at.ensures c.in-Type.is in v.to_next.falls

pub loop-i-preserved : goal.loop-i-preserved
loop-i-preserved c = let v = type_at c.requires.formed c.record_at.ensures c.in-Type.is in (v.to_next.stands, all_yes _ v.view c.type_ok.ensures c.if-not-type_ok.false ∙ c.loop-i.invariant.1)

pub returns : goal.returns
returns c = all_end _ (types_none _ c.loop-i-test.false) ∙ c.loop-i.invariant.1
