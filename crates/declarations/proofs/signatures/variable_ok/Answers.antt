use Rattle.std.proofs.Common.{arith}
use Rattle.declarations.proofs.DeclaresLaws.{functor_low}
use Rattle.declarations.proofs.SignaturesLaws.{variable_mode_law, variable_number, variable_regioned, variable_type_law, variable_bare}
use Rattle.declarations.proofs.signatures.variable_ok.Goals as goal

pub word-requires : goal.word-requires
word-requires c = record {
  formed = c.requires.declares.0.formed;
  k_lt_record_words = (omega arith, c.requires.stands.below);
}

pub returns-then-word-gt-MODE_OUT : goal.returns-then-word-gt-MODE_OUT
returns-then-word-gt-MODE_OUT c = variable_mode_law c.requires.declares.0 _ _ c.word.ensures.0 c.if-word-gt-MODE_OUT.true

pub word-t-requires : goal.word-t-requires
word-t-requires c = record {
  formed = c.requires.declares.0.formed;
  k_lt_record_words = (omega arith, c.requires.stands.below);
}

pub word-region-requires : goal.word-region-requires
word-region-requires c = record {
  formed = c.requires.declares.0.formed;
  k_lt_record_words = (omega arith, c.requires.stands.below);
}

pub returns-then-t-eq0 : goal.returns-then-t-eq0
returns-then-t-eq0 c = variable_number c.requires.declares.0 _ _ c.word.ensures.0 c.if-word-gt-MODE_OUT.false c.word-t.ensures.0 c.word-region.ensures.0 c.if-t-eq0.true

pub regioned-requires : goal.regioned-requires
regioned-requires c = functor_low c.requires.declares.0 _ 0

pub is_region_of-requires : goal.is_region_of-requires
is_region_of-requires c = record {
  formed = c.requires.declares.0.formed;
  own = c.requires.declares.1;
}

pub returns-then-regioned-ne0 : goal.returns-then-regioned-ne0
returns-then-regioned-ne0 c = variable_regioned c.requires.declares.0 _ _ c.word.ensures.0 c.if-word-gt-MODE_OUT.false c.word-t.ensures.0 c.word-region.ensures.0 c.regioned.ensures c.if-regioned-ne0.true c.is_region_of.ensures

pub returns-then-functor-eq0 : goal.returns-then-functor-eq0
returns-then-functor-eq0 c = variable_type_law c.requires.declares.0 _ _ c.word.ensures.0 c.if-word-gt-MODE_OUT.false c.word-t.ensures.0 c.word-region.ensures.0 c.regioned.ensures (omega (arith, c.if-regioned-ne0.false)) c.if-t-eq0.false c.functor.ensures c.if-functor-eq0.true

pub returns : goal.returns
returns c = variable_bare c.requires.declares.0 _ _ c.word.ensures.0 c.if-word-gt-MODE_OUT.false c.word-t.ensures.0 c.word-region.ensures.0 c.regioned.ensures (omega (arith, c.if-regioned-ne0.false)) c.if-t-eq0.false c.functor.ensures c.if-functor-eq0.false
