use mathlib.Core.Path.{refl}
use Rattle.language.specs.Computing.{computing}
use Rattle.language.specs.Table.{eight, rows, file}
use Rattle.language.specs.Conditional.{remove_create_in_condition}
use Rattle.hand_sized.proofs.tries.waits.Goals as goal

pub returns : goal.returns
unfolding computing eight rows file remove_create_in_condition
returns c = refl
