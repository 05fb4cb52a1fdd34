use mathlib.Core.Path.{refl}
use Rattle.language.specs.Computing.{computing}
use Rattle.language.specs.Table.{eight, rows, file, five, with5, twice}
use Rattle.hand_sized.proofs.files.removed_twice.Goals as goal

pub returns : goal.returns
unfolding computing eight rows file five with5 twice
returns c = refl
