use Rattle.std.proofs.Common.{arith}
use mathlib.Core.Path.{refl}
use Rattle.chains.specs.Is.{region_is}
use Rattle.chains.specs.Declared.{region_at_law}
use Rattle.declarations.specs.Functors.{stands_same}
use Rattle.declarations.proofs.DeclaresLaws.{functor_low, regioned_stands, regioned_fit}
use Rattle.declarations.proofs.SignaturesLaws.{region_type_law, region_class_law, region_edges_law}
use Rattle.declarations.proofs.signatures.region_ok.Goals as goal

pub word-requires : goal.word-requires
word-requires c = record {
  formed = c.requires.declares.0.formed;
  k_lt_record_words = (omega arith, c.requires.stands.0.below);
}

pub regioned-start-requires : goal.regioned-start-requires
regioned-start-requires c = functor_low c.requires.declares.0 _ 0

pub returns-then-start-eq0 : goal.returns-then-start-eq0
returns-then-start-eq0 c = region_type_law c.requires.declares.0 _ _ c.word.ensures.0 c.regioned-start.ensures c.if-start-eq0.true

pub word-requires-2 : goal.word-requires-2
word-requires-2 c = record {
  formed = c.requires.declares.0.formed;
  k_lt_record_words = (omega arith, c.requires.stands.0.below);
}

pub returns-then-word-gt-CLASS_DEAD : goal.returns-then-word-gt-CLASS_DEAD
returns-then-word-gt-CLASS_DEAD c = region_class_law c.requires.declares.0 _ _ c.word.ensures.0 c.regioned-start.ensures c.if-start-eq0.false c.word-2.ensures.0 c.if-word-gt-CLASS_DEAD.true

pub word-requires-3 : goal.word-requires-3
word-requires-3 c = record {
  formed = c.requires.declares.0.formed;
  k_lt_record_words = (omega arith, c.requires.stands.0.below);
}

pub edges_ok-requires : goal.edges_ok-requires
edges_ok-requires c = let D = c.requires.declares.0 in let start = c.regioned-start.ensures in record {
  declares = (D, c.requires.declares.1);
  stands = (regioned_stands D _ start c.if-start-eq0.false, regioned_fit D _ start c.if-start-eq0.false);
  stands_2 = stands_same c.word-3.ensures.0 (region_at_law D.formed refl (region_is c.requires.stands.0 c.requires.stands.1)).to_edges.stands;
}

pub returns : goal.returns
returns c = region_edges_law c.requires.declares.0 _ _ c.word.ensures.0 c.regioned-start.ensures c.if-start-eq0.false c.word-2.ensures.0 c.if-word-gt-CLASS_DEAD.false c.word-3.ensures.0 c.edges_ok.ensures
