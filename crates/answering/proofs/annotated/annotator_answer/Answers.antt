use Rattle.answering.specs.Annotated.{writes_file, writes_line}
use Rattle.answering.proofs.annotated.annotator_answer.Goals as goal

pub returns-in-Err : goal.returns-in-Err
returns-in-Err c = writes_line _ _ c.requires c.annotate.ensures c.in-Err.is c.put_refusal.ensures

pub returns-in-Ok : goal.returns-in-Ok
returns-in-Ok c = writes_file _ _ c.requires c.annotate.ensures c.in-Ok.is
