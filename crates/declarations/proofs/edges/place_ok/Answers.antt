use Rattle.chains.specs.Is.{edge_is}
use Rattle.chains.specs.Declared.{edge_at}
use Rattle.declarations.proofs.EdgeLaws.{place_none, place_functor, place_position, place_target, place_all}
use Rattle.std.proofs.Common.{rules, ◌∙◌}
use Rattle.declarations.proofs.edges.place_ok.Goals as goal

pub returns-then-e-eq0 : goal.returns-then-e-eq0
returns-then-e-eq0 c = place_none _ _ _ _ _ _ c.if-e-eq0.true

pub returns-in_default : goal.returns-in_default
returns-in_default c = absurd (c.in_default.not-Edge _ _ _ _ (c.record_at.ensures ∙ edge_is c.requires.stands c.if-e-eq0.false))

pub returns-then-functor-g : goal.returns-then-functor-g
returns-then-functor-g c = place_functor _ _ _ _ _ _ (edge_at c.requires.formed.0 c.record_at.ensures c.in-Edge.is) c.if-functor-g.true

pub returns-then-position-k : goal.returns-then-position-k
returns-then-position-k c = place_position _ _ _ _ _ _ (edge_at c.requires.formed.0 c.record_at.ensures c.in-Edge.is) c.if-functor-g.false c.if-position-k.true

pub is_region_of-requires : goal.is_region_of-requires
is_region_of-requires c = search rules

pub returns-then-not-is_region_of : goal.returns-then-not-is_region_of
returns-then-not-is_region_of c = place_target _ _ _ _ _ _ (edge_at c.requires.formed.0 c.record_at.ensures c.in-Edge.is) c.if-functor-g.false c.if-position-k.false c.is_region_of.ensures c.if-not-is_region_of.true

pub returns : goal.returns
returns c = place_all _ _ _ _ _ _ (edge_at c.requires.formed.0 c.record_at.ensures c.in-Edge.is) c.if-functor-g.false c.if-position-k.false c.is_region_of.ensures c.if-not-is_region_of.false
