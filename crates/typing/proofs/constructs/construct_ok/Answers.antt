use Rattle.std.proofs.Common.{arith}
use Rattle.declarations.specs.Functors.{stands_same}
use Rattle.declarations.specs.Declares.{functor_stands}
use Rattle.declarations.specs.Own.{variable_stands}
use Rattle.typing.proofs.StepsLaws.{construct_unlisted, construct_none, construct_all}
use Rattle.typing.proofs.constructs.construct_ok.Goals as goal

pub word-requires : goal.word-requires
word-requires c = record {
  formed = c.requires.declares.0.formed;
  k_lt_record_words = (omega arith, c.requires.construct.1);
}

pub returns-then-v-eq0 : goal.returns-then-v-eq0
returns-then-v-eq0 c = construct_unlisted c.requires.declares.0.formed c.requires.declares.1 _ c.word.ensures.0 c.variable-v.ensures c.requires.construct.0 c.if-v-eq0.true

pub word-requires-2 : goal.word-requires-2
word-requires-2 c = record {
  formed = c.requires.declares.0.formed;
  k_lt_record_words = (omega arith, (stands_same c.variable-v.ensures (variable_stands c.requires.declares.0.formed c.requires.declares.1 _)).below);
}

pub word-requires-3 : goal.word-requires-3
word-requires-3 c = record {
  formed = c.requires.declares.0.formed;
  k_lt_record_words = (omega arith, c.requires.construct.1);
}

pub returns-then-g-eq0 : goal.returns-then-g-eq0
returns-then-g-eq0 c = construct_none c.requires.declares.0.formed c.requires.declares.1 _ c.word.ensures.0 c.variable-v.ensures c.requires.construct.0 c.requires.declares.0 c.if-v-eq0.false c.word-2.ensures.0 c.word-3.ensures.0 c.functor-g.ensures c.if-g-eq0.true

pub arguments_ok-requires : goal.arguments_ok-requires
arguments_ok-requires c = record {
  formed = (c.requires.declares.0.formed, c.requires.declares.1);
  g_bound = ((stands_same c.functor-g.ensures (functor_stands c.requires.declares.0 _ _)).below, c.requires.construct.1);
}

pub returns : goal.returns
returns c = construct_all c.requires.declares.0.formed c.requires.declares.1 _ c.word.ensures.0 c.variable-v.ensures c.requires.construct.0 c.requires.declares.0 c.if-v-eq0.false c.word-2.ensures.0 c.word-3.ensures.0 c.functor-g.ensures c.if-g-eq0.false c.arguments_ok.ensures
