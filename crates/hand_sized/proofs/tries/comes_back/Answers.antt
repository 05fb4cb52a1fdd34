use mathlib.Core.Path.{refl}
use Rattle.language.specs.Computing.{computing}
use Rattle.language.specs.Table.{eight, rows, file}
use Rattle.language.specs.Conditional.{numbers_come_back}
use Rattle.hand_sized.proofs.tries.comes_back.Goals as goal

pub returns : goal.returns
unfolding computing eight rows file numbers_come_back
returns c = refl
