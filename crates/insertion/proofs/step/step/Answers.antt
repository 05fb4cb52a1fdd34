use Rattle.insertion.proofs.StepsLaws.{step_laid}
use Rattle.std.proofs.Common.{rules}
use Rattle.insertion.proofs.step.step.Goals as goal

pub word-next-requires : goal.word-next-requires
word-next-requires c = search rules

pub lay_record-end-requires : goal.lay_record-end-requires
lay_record-end-requires c = record {
  formed = c.requires.formed;
  i_bound = c.requires.stands.0.below;
}

pub returns : goal.returns
returns c =
    step_laid _ _ _ c.requires.formed c.requires.stands.0 c.requires.stands.1 c.requires.fact.0 c.requires.fact.1.0 c.requires.fact.1.1 c.created_at-created.ensures c.removed_at-removed.ensures c.word-next.ensures.0 c.lay_marks-start.ensures c.follows.ensures c.lay_record-end.ensures c.lay_marks-record.ensures c.past.ensures
