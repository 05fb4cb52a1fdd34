use mathlib.Core.Path.{ap}
use lib.ListN.{set}
use Rattle.language.specs.Table.{U6}
use Rattle.hand_sized.proofs.files.past_arity.Goals as goal

pub returns : goal.returns
unfolding U6
returns c = ap (λ f. set f 110 1) c.u-file.ensures
