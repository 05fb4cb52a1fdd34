use mathlib.Core.Path.{refl}
use Rattle.language.specs.Computing.{computing}
use Rattle.language.specs.Table.{eight, rows, file}
use Rattle.language.specs.Conditional.{remove_at_condition_end_then_create}
use Rattle.hand_sized.proofs.tries.at_the_end.Goals as goal

pub returns : goal.returns
unfolding computing eight rows file remove_at_condition_end_then_create
returns c = refl
