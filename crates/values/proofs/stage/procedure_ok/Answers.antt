use mathlib.Core.Path.{refl}
use Rattle.values.proofs.Windows.{body_stands, valued_stop, valued_end}
use Rattle.values.proofs.stage.procedure_ok.Goals as goal

pub goals-requires : goal.goals-requires
goals-requires c = record {
  formed = c.requires.formed;
  all_noted = c.requires.all_noted;
  stands = body_stands c.requires.file_table c.requires.q_in_bounds c.word_at-window.ensures c.word_at-body.ensures;
}

pub returns-in_default : goal.returns-in_default
returns-in_default c = valued_stop c.requires.file_table c.requires.q_in_bounds c.word_at-window.ensures c.requires.file_value c.set_at-ins.ensures c.set_at-outs.ensures c.word_at-body.ensures _ _ _ refl c.in_default.ensures refl

pub returns : goal.returns
returns c = valued_end c.requires.file_table c.requires.q_in_bounds c.word_at-window.ensures c.requires.file_value c.set_at-ins.ensures c.set_at-outs.ensures c.word_at-body.ensures _ _ _ refl c.in-Some.ensures refl refl c.is_subset.ensures
