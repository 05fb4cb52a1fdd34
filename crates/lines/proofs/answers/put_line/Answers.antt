use Rattle.lines.specs.Answers.{put_line}
use Rattle.lines.proofs.answers.put_line.Goals as goal

pub returns : goal.returns
returns c = put_line _ c.put_text-number.ensures c.put_decimal-end.ensures c.put_text.ensures
