use Rattle.std.proofs.Common.{arith}
use Rattle.declarations.specs.Functors.{stands_same}
use Rattle.declarations.specs.Own.{variable_stands}
use Rattle.declarations.proofs.LookupLaws.{typed_none, typed_some}
use Rattle.declarations.proofs.names.has_type.Goals as goal

pub returns-then-v-eq0 : goal.returns-then-v-eq0
returns-then-v-eq0 c = typed_none c.requires.formed c.requires.own _ c.variable-v.ensures c.if-v-eq0.true _

pub word-requires : goal.word-requires
word-requires c = record {
  formed = c.requires.formed;
  k_lt_record_words = (omega arith, (stands_same c.variable-v.ensures (variable_stands c.requires.formed c.requires.own _)).below);
}

pub returns : goal.returns
returns c = typed_some c.requires.formed c.requires.own _ c.variable-v.ensures c.if-v-eq0.false _ c.word.ensures.0
