use mathlib.Core.Path.{refl}
use Rattle.language.specs.Computing.{computing}
use Rattle.language.specs.Table.{eight, rows, file, new_u}
use Rattle.hand_sized.proofs.files.new_u.Goals as goal

pub returns : goal.returns
unfolding computing eight rows file new_u
returns c = refl
