use mathlib.Core.Path.{refl}
use Rattle.language.specs.Computing.{computing}
use Rattle.language.specs.Table.{eight, rows, file, number_variables, doublings, to_the_ends, over}
use Rattle.hand_sized.proofs.ends.over.Goals as goal

pub returns : goal.returns
unfolding computing eight rows file number_variables doublings to_the_ends over
returns c = refl
