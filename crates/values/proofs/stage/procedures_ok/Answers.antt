-- The procedures passed in turn.
use Rattle.chains.specs.Formed.{procedures_stand}
use Rattle.chains.specs.Elements.{procedure_count}
use Rattle.values.proofs.Turns.{turn_first, turn_stop, turn_next, turn_last}
use Rattle.values.proofs.stage.procedures_ok.Goals as goal

pub chain_length-count-requires : goal.chain_length-count-requires
chain_length-count-requires c = record {
  formed = c.requires.formed;
  i_bound = rw c.word.ensures.0 (procedures_stand c.requires.formed).below;
}

pub loop-q-init : goal.loop-q-init
loop-q-init c = turn_first _ _

pub procedure_ok-requires : goal.procedure_ok-requires
procedure_ok-requires c = record {
  formed = c.requires.formed;
  file_value = c.requires.file_value;
  file_table = c.requires.file_table;
  all_noted = c.requires.all_noted;
  q_in_bounds = (rw (procedure_count c.requires.formed c.word.ensures.0 c.chain_length-count.ensures) at c.loop-q-test.true);
}

pub returns-then-not-procedure_ok : goal.returns-then-not-procedure_ok
returns-then-not-procedure_ok c = turn_stop _ _ c.loop-q.invariant (rw (procedure_count c.requires.formed c.word.ensures.0 c.chain_length-count.ensures) at c.loop-q-test.true) c.procedure_ok.ensures c.if-not-procedure_ok.true

pub loop-q-preserved : goal.loop-q-preserved
loop-q-preserved c = turn_next _ _ c.loop-q.invariant (rw (procedure_count c.requires.formed c.word.ensures.0 c.chain_length-count.ensures) at c.loop-q-test.true) c.procedure_ok.ensures c.if-not-procedure_ok.false

pub returns : goal.returns
returns c = turn_last _ _ c.loop-q.invariant (rw (procedure_count c.requires.formed c.word.ensures.0 c.chain_length-count.ensures) at c.loop-q-test.false)
