use mathlib.Core.Path.{ap, ◌∙◌}
use Rattle.language.specs.Answers.{checked}
use Rattle.language.specs.Table.{table}
use Rattle.hand_sized.proofs.check_removed_early.Goals as goal

pub returns : goal.returns
returns c = c.check.ensures.value ∙ ap checked c.removed_early.ensures ∙ table.removed_early
