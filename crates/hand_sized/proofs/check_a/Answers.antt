use mathlib.Core.Path.{ap, ◌∙◌}
use Rattle.language.specs.Answers.{checked}
use Rattle.language.specs.Table.{table}
use Rattle.hand_sized.proofs.check_a.Goals as goal

pub returns : goal.returns
returns c = c.check.ensures.value ∙ ap checked c.a.ensures ∙ table.A-checked
