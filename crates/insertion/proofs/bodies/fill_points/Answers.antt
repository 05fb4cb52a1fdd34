use Rattle.insertion.proofs.BodiesLaws.{points_start, points_filled}
use Rattle.insertion.proofs.bodies.fill_points.Goals as goal

pub list_live-filled-requires : goal.list_live-filled-requires
list_live-filled-requires c = record {
  formed = c.requires.formed;
  accessed = c.requires.accessed;
  stands = rw c.word_at-body.ensures c.requires.stands;
  table_len = c.requires.points_len;
}

pub list_wanted-requires : goal.list_wanted-requires
list_wanted-requires c = let e = c.list_live-filled.ensures in record {
  points_len = e.table_len_2;
  start_le_point_words = points_start _ _ _ _ _ _ _ _ e.table_len_2 c.word_at-body.ensures c.set_at-outs.ensures e.list_done;
}

pub returns : goal.returns
returns c =
    let e = c.list_live-filled.ensures in
    points_filled _ _ _ _ _ _ _ _ e.table_len_2 c.word_at-body.ensures c.set_at-outs.ensures e.list_done c.list_wanted.ensures
