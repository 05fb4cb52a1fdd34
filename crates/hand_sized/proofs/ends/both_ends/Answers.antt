use mathlib.Core.Path.{ap}
use lib.ListN.{set}
use Rattle.language.specs.Computing.{computing}
use Rattle.language.specs.Table.{eight, rows, file, number_variables, doublings, to_the_ends, over}
use Rattle.hand_sized.proofs.ends.both_ends.Goals as goal

pub returns : goal.returns
unfolding computing eight rows file number_variables doublings to_the_ends over
returns c = ap (λ f. set f 694 0) c.over-file.ensures
