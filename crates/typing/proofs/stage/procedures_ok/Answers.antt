use Rattle.std.proofs.Common.{arith, refl}
use Rattle.chains.specs.Formed.{procedures_stand, counted}
use Rattle.chains.specs.Elements.{procedure_count}
use Rattle.declarations.specs.Functors.{stands_same}
use Rattle.typing.proofs.ProceduresLaws.{no_procedure_law, many_procedures, procedures_all}
use Rattle.typing.proofs.stage.procedures_ok.Goals as goal

pub word-first-requires : goal.word-first-requires
word-first-requires c = record {
  formed = c.requires.formed;
  k_lt_record_words = (omega arith, (counted c.requires.formed).some);
}

pub chain_length-count-requires : goal.chain_length-count-requires
chain_length-count-requires c = record {
  formed = c.requires.formed;
  i_bound = (stands_same c.word-first.ensures.0 (procedures_stand c.requires.formed)).below;
}

pub returns-then-count-eq0 : goal.returns-then-count-eq0
returns-then-count-eq0 c = no_procedure_law _ c.requires.formed c.word-first.ensures.0 c.chain_length-count.ensures c.if-count-eq0.true

pub returns-then-count-gt-MAX_PROCEDURES : goal.returns-then-count-gt-MAX_PROCEDURES
returns-then-count-gt-MAX_PROCEDURES c = many_procedures _ c.requires.formed c.word-first.ensures.0 c.chain_length-count.ensures c.if-count-eq0.false c.if-count-gt-MAX_PROCEDURES.true

pub list_file-requires : goal.list_file-requires
list_file-requires c = record {
  formed = c.requires.formed;
  file_value = (c.requires.file_value, omega (arith, c.if-count-gt-MAX_PROCEDURES.false, procedure_count c.requires.formed c.word-first.ensures.0 c.chain_length-count.ensures));
  table_value = refl;
}

pub each_procedure_ok-requires : goal.each_procedure_ok-requires
each_procedure_ok-requires c = record {
  declares = c.list_file.ensures;
  stands = stands_same c.word-first.ensures.0 (procedures_stand c.requires.formed);
}

pub returns : goal.returns
returns c = procedures_all _ c.requires.formed c.word-first.ensures.0 c.chain_length-count.ensures c.if-count-eq0.false c.if-count-gt-MAX_PROCEDURES.false c.each_procedure_ok.ensures
