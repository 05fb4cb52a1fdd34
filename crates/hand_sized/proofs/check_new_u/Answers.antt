use mathlib.Core.Path.{ap, ◌∙◌}
use Rattle.language.specs.Answers.{checked}
use Rattle.language.specs.Table.{table}
use Rattle.hand_sized.proofs.check_new_u.Goals as goal

pub returns : goal.returns
returns c = c.check.ensures.value ∙ ap checked c.new_u.ensures ∙ table.new_u_checked
