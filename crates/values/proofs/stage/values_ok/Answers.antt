use Rattle.values.proofs.Entry.{entry_declares}
use Rattle.values.proofs.Turns.{entry_stop, entry_goes}
use Rattle.values.proofs.stage.values_ok.Goals as goal

pub list_accesses-requires : goal.list_accesses-requires
list_accesses-requires c = record {
  formed = c.requires.formed;
  file_table = c.requires.file_table;
  row_words_in_bounds = c.requires.row_words_in_bounds;
  file_value = c.requires.file_value;
}

pub all_local-requires : goal.all_local-requires
all_local-requires c = record {
  formed = c.requires.formed;
  stands = (entry_declares c.requires.formed c.word-first.ensures.0 c.field.ensures).stands;
}

pub returns-then-not-all_local : goal.returns-then-not-all_local
returns-then-not-all_local c = record {
  value = entry_stop _ (entry_declares c.requires.formed c.word-first.ensures.0 c.field.ensures) c.all_local.ensures c.if-not-all_local.true;
  all_noted = c.list_accesses.ensures.all_noted;
  rows_kept = c.list_accesses.ensures.rows_kept;
}

pub procedures_ok-requires : goal.procedures_ok-requires
procedures_ok-requires c = record {
  formed = c.requires.formed;
  file_value = c.requires.file_value;
  file_table = c.requires.file_table;
  all_noted = c.list_accesses.ensures.all_noted;
}

pub returns : goal.returns
returns c = record {
  value = entry_goes _ (entry_declares c.requires.formed c.word-first.ensures.0 c.field.ensures) c.all_local.ensures c.if-not-all_local.false c.procedures_ok.ensures;
  all_noted = c.list_accesses.ensures.all_noted;
  rows_kept = c.list_accesses.ensures.rows_kept;
}
