use Rattle.insertion.proofs.ProceduresLaws.{here, here_below, procedure_laid}
use Rattle.insertion.proofs.procedures.lay_procedure.Goals as goal

pub lay_chain-regions-requires : goal.lay_chain-regions-requires
lay_chain-regions-requires c = record {
  formed = c.requires.unrefused.formed;
  start_bound = rw c.word-variables.ensures.0 (here c.requires.unrefused.formed c.requires.turn.0 c.requires.turn.1).to_variables.stands.below;
}

pub lay_chain-body-requires : goal.lay_chain-body-requires
lay_chain-body-requires c = record {
  formed = c.requires.unrefused.formed;
  start_bound = rw c.word.ensures.0 (here c.requires.unrefused.formed c.requires.turn.0 c.requires.turn.1).to_regions.stands.below;
}

pub lay_goals-end-requires : goal.lay_goals-end-requires
lay_goals-end-requires c = record {
  unrefused = c.requires.unrefused;
  q_in_bounds = here_below c.requires.unrefused.formed c.requires.turn.0 c.requires.turn.1;
  points_len = c.requires.points_len;
}

pub store_procedure-requires : goal.store_procedure-requires
store_procedure-requires c = record {
  formed = c.requires.unrefused.formed;
  i_bound = c.requires.turn.0.stands.below;
}

pub returns : goal.returns
returns c = record {
  points_len_2 = c.lay_goals-end.ensures.points_len_2;
  lays = procedure_laid c.requires.unrefused.formed c.requires.turn.0 c.requires.turn.1 c.behind-start.ensures c.word-variables.ensures.0 c.lay_chain-regions.ensures c.word.ensures.0 c.lay_chain-body.ensures c.lay_goals-end.ensures.lays c.store_procedure.ensures;
}
