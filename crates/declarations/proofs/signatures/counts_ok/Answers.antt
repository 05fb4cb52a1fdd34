use Rattle.std.proofs.Common.{arith}
use mathlib.Core.Path.{refl}
use Rattle.chains.specs.Is.{procedure_is}
use Rattle.chains.specs.Declared.{procedure_at_law}
use Rattle.declarations.specs.Functors.{stands_same}
use Rattle.declarations.proofs.SignaturesLaws.{many_variables, counts_all}
use Rattle.declarations.proofs.signatures.counts_ok.Goals as goal

pub word-requires : goal.word-requires
word-requires c = record {
  formed = c.requires.formed;
  k_lt_record_words = (omega arith, c.requires.stands.0.below);
}

pub chain_length-requires : goal.chain_length-requires
chain_length-requires c = record {
  formed = c.requires.formed;
  i_bound = (stands_same c.word.ensures.0 (procedure_at_law c.requires.formed refl (procedure_is c.requires.stands.0 c.requires.stands.1)).to_variables.stands).below;
}

pub returns-then-chain_length-gt-MAX_VARIABLES : goal.returns-then-chain_length-gt-MAX_VARIABLES
returns-then-chain_length-gt-MAX_VARIABLES c = many_variables _ _ c.requires.formed c.requires.stands.0 c.requires.stands.1 c.word.ensures.0 c.chain_length.ensures c.if-chain_length-gt-MAX_VARIABLES.true

pub word-requires-2 : goal.word-requires-2
word-requires-2 c = record {
  formed = c.requires.formed;
  k_lt_record_words = (omega arith, c.requires.stands.0.below);
}

pub chain_length-requires-2 : goal.chain_length-requires-2
chain_length-requires-2 c = record {
  formed = c.requires.formed;
  i_bound = (stands_same c.word-2.ensures.0 (procedure_at_law c.requires.formed refl (procedure_is c.requires.stands.0 c.requires.stands.1)).to_regions.stands).below;
}

pub returns : goal.returns
returns c = counts_all _ _ c.requires.formed c.requires.stands.0 c.requires.stands.1 c.word.ensures.0 c.chain_length.ensures c.if-chain_length-gt-MAX_VARIABLES.false c.word-2.ensures.0 c.chain_length-2.ensures
