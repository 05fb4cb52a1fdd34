use mathlib.Core.Path.{refl}
use Rattle.language.specs.Computing.{computing}
use Rattle.language.specs.Table.{eight, rows, file, five, with5, early}
use Rattle.hand_sized.proofs.files.removed_early.Goals as goal

pub returns : goal.returns
unfolding computing eight rows file five with5 early
returns c = refl
