use Rattle.chains.specs.Formed.{types_stand}
use Rattle.declarations.specs.Functors.{stands_same}
use Rattle.declarations.proofs.TypeLaws.{type_count, many_types, types_all}
use Rattle.declarations.proofs.types.types_ok.Goals as goal

pub chain_length-n-requires : goal.chain_length-n-requires
chain_length-n-requires c = record {
  formed = c.requires;
  i_bound = (stands_same c.word-first.ensures.0 (types_stand c.requires)).below;
}

pub returns-then-n-gt-MAX_TYPES : goal.returns-then-n-gt-MAX_TYPES
returns-then-n-gt-MAX_TYPES c = many_types _ (type_count _ _ c.requires c.word-first.ensures.0 c.chain_length-n.ensures) c.if-n-gt-MAX_TYPES.true

pub each_type_ok-requires : goal.each_type_ok-requires
each_type_ok-requires c = record {
  formed = c.requires;
  stands = stands_same c.word-first.ensures.0 (types_stand c.requires);
}

pub returns : goal.returns
returns c = types_all _ _ c.requires c.word-first.ensures.0 (type_count _ _ c.requires c.word-first.ensures.0 c.chain_length-n.ensures) c.if-n-gt-MAX_TYPES.false c.each_type_ok.ensures
