use Rattle.std.proofs.Common.{rules}
use Rattle.insertion.proofs.WholeLaws.{file_laid, types_below}
use Rattle.insertion.proofs.whole.lay_file.Goals as goal

pub lay_chain-procedures-requires : goal.lay_chain-procedures-requires
lay_chain-procedures-requires c = record {
  formed = c.requires.unrefused.formed;
  start_bound = types_below c.requires.unrefused.formed c.word-types.ensures.0;
}

pub lay_procedures-end-requires : goal.lay_procedures-end-requires
lay_procedures-end-requires c = search rules

pub returns : goal.returns
returns c = record {
  points_len_2 = c.lay_procedures-end.ensures.points_len_2;
  lays = file_laid c.requires.unrefused.formed c.word-types.ensures.0 c.lay_chain-procedures.ensures c.lay_procedures-end.ensures.lays c.store_header.ensures;
}
