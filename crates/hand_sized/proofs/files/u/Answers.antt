use mathlib.Core.Path.{refl}
use Rattle.language.specs.Computing.{computing}
use Rattle.language.specs.Table.{eight, rows, file, five, with5, U}
use Rattle.hand_sized.proofs.files.u.Goals as goal

pub returns : goal.returns
unfolding computing eight rows file five with5 U
returns c = refl
