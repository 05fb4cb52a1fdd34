-- The rows of the records passed are filled.
use Rattle.std.proofs.Common.{arith}
use Rattle.language.specs.File.{record_count}
use Rattle.chains.specs.Formed.{procedures_stand}
use Rattle.chains.specs.Elements.{procedure_count}
use Rattle.accesses.specs.Noting.{noted_accessed}
use Rattle.accesses.proofs.NotingLaws.{noting_first, noting_next, noting_last}
use Rattle.accesses.proofs.filling.list_accesses.Goals as goal

pub chain_length-procedures-requires : goal.chain_length-procedures-requires
chain_length-procedures-requires c = let F = c.requires.formed in record {
  formed = F;
  i_bound = rw c.word.ensures.0 (procedures_stand F).below;
}

pub loop-i-init : goal.loop-i-init
loop-i-init c = (omega arith, noting_first _ _)

pub list_access-requires : goal.list_access-requires
unfolding record_count
list_access-requires c = record {
  formed = c.requires.formed;
  file_table = c.requires.file_table;
  procedures_value = procedure_count c.requires.formed c.word.ensures.0 c.chain_length-procedures.ensures;
  i_bound = (rw c.record_count-count.ensures at c.loop-i-test.true, omega (arith, c.loop-i.invariant.1.kept.length, c.requires.row_words_in_bounds));
  file_value = c.requires.file_value;
}

pub loop-i-preserved : goal.loop-i-preserved
loop-i-preserved c = (omega arith, noting_next c.loop-i.invariant.1 c.list_access.ensures)

pub returns : goal.returns
unfolding record_count
returns c = let h = c.loop-i.invariant.1 in let n = noting_last h (rw c.record_count-count.ensures at c.loop-i-test.false) in record {
  accessed = noted_accessed n;
  all_noted = n;
  rows_kept = h.kept;
}
