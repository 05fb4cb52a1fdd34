use Rattle.insertion.proofs.AlongLaws.{along_rest}
use Rattle.insertion.proofs.BodiesLaws.{body_laid}
use Rattle.std.proofs.Common.{rules}
use Rattle.insertion.proofs.bodies.lay_body.Goals as goal

pub fill_points-filled-requires : goal.fill_points-filled-requires
fill_points-filled-requires c = search rules

pub steps-i-requires : goal.steps-i-requires
steps-i-requires c = record {
  formed = c.requires.formed;
  stands = rw c.word_at-body.ensures c.requires.stands;
}

pub goals-requires : goal.goals-requires
goals-requires c = let e = c.steps-i.ensures in record {
  formed = c.requires.formed;
  stands = (e.lays_along.stands, e.has_parts);
}

pub returns : goal.returns
returns c = let g = c.fill_points-filled.ensures in record {
  points_len_2 = g.0;
  body_laid = body_laid _ _ c.requires.formed c.requires.stands _ _ _ _ _ g c.start_removed-removed.ensures c.word_at-body.ensures c.lay_marks-record.ensures
      (along_rest c.steps-i.ensures.lays_along c.goals.ensures);
}
