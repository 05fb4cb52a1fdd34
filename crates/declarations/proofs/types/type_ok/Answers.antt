use mathlib.Core.Path.{◌∙◌, sym}
use Rattle.chains.specs.Elements.{functors_count}
use Rattle.declarations.proofs.TypeLaws.{type_none, type_many, type_all}
use Rattle.declarations.proofs.types.type_ok.Goals as goal

pub chain_length-count-requires : goal.chain_length-count-requires
chain_length-count-requires c = record {
  formed = c.requires.formed;
  i_bound = c.requires.stands.below;
}

pub returns-then-count-eq0 : goal.returns-then-count-eq0
returns-then-count-eq0 c = type_none _ _ (c.chain_length-count.ensures ∙ sym (functors_count c.requires.formed _ c.requires.stands)) c.if-count-eq0.true

pub returns-then-count-gt-MAX_FUNCTORS : goal.returns-then-count-gt-MAX_FUNCTORS
returns-then-count-gt-MAX_FUNCTORS c = type_many _ _ (c.chain_length-count.ensures ∙ sym (functors_count c.requires.formed _ c.requires.stands)) c.if-count-gt-MAX_FUNCTORS.true

pub functors_ok-requires : goal.functors_ok-requires
functors_ok-requires c = record {
  formed = c.requires.formed;
  stands = c.requires.stands;
}

pub returns : goal.returns
returns c = type_all _ _ (c.chain_length-count.ensures ∙ sym (functors_count c.requires.formed _ c.requires.stands)) c.if-count-eq0.false c.if-count-gt-MAX_FUNCTORS.false c.functors_ok.ensures
