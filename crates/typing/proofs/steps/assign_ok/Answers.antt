use Rattle.std.proofs.Common.{arith, rules}
use Rattle.declarations.specs.Functors.{stands_same}
use Rattle.declarations.specs.Own.{variable_stands}
use Rattle.typing.proofs.StepsLaws.{assign_none, assign_all}
use Rattle.typing.proofs.steps.assign_ok.Goals as goal

pub word-requires : goal.word-requires
word-requires c = search rules

pub returns-then-v-eq0 : goal.returns-then-v-eq0
returns-then-v-eq0 c = assign_none c.requires.formed.0 c.requires.formed.1 _ c.word.ensures.0 c.variable-v.ensures c.requires.assign.0 c.if-v-eq0.true

pub word-t-requires : goal.word-t-requires
word-t-requires c = record {
  formed = c.requires.formed.0;
  k_lt_record_words = (omega arith, (stands_same c.variable-v.ensures (variable_stands c.requires.formed.0 c.requires.formed.1 _)).below);
}

pub word-requires-2 : goal.word-requires-2
word-requires-2 c = search rules

pub has_type-requires : goal.has_type-requires
has_type-requires c = search rules

pub returns : goal.returns
returns c = assign_all c.requires.formed.0 c.requires.formed.1 _ c.word.ensures.0 c.variable-v.ensures c.requires.assign.0 c.if-v-eq0.false c.word-t.ensures.0 c.word-2.ensures.0 c.has_type.ensures
