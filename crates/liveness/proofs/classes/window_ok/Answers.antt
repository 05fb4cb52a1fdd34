use Rattle.liveness.proofs.classes.window_ok.Goals as goal

pub list_live-filled-requires : goal.list_live-filled-requires
list_live-filled-requires c = record {
  formed = c.requires.formed;
  accessed = c.requires.accessed;
  stands = rw c.word_at-body.ensures c.requires.stands;
  table_len = c.requires.points_len;
}

pub returns : goal.returns
returns c = record {
  points_len_2 = c.list_live-filled.ensures.table_len_2;
  list_classes = rw (c.word_at-body.ensures, c.set_at-outs.ensures) at c.list_live-filled.ensures.list_classes;
}
