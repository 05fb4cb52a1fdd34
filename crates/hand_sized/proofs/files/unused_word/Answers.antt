use mathlib.Core.Path.{ap}
use lib.ListN.{set}
use Rattle.language.specs.Table.{U5}
use Rattle.hand_sized.proofs.files.unused_word.Goals as goal

pub returns : goal.returns
unfolding U5
returns c = ap (λ f. set f 94 1) c.u-file.ensures
