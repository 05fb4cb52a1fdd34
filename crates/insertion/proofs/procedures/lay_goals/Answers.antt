use Rattle.tables.specs.Starts.{body_stands}
use Rattle.insertion.proofs.ProceduresLaws.{goals_laid}
use Rattle.insertion.proofs.procedures.lay_goals.Goals as goal

pub lay_body-requires : goal.lay_body-requires
lay_body-requires c = record {
  formed = c.requires.unrefused.formed;
  accessed = c.requires.unrefused.prepared.accessed;
  stands = body_stands c.requires.unrefused.prepared.windows c.requires.q_in_bounds c.start_of-start.ensures.value;
  points_len = c.requires.points_len;
}

pub returns : goal.returns
returns c = record {
  points_len_2 = c.lay_body.ensures.points_len_2;
  lays = goals_laid c.requires.unrefused c.requires.q_in_bounds c.start_of-start.ensures.value c.lay_body.ensures.body_laid;
}
