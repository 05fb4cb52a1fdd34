use mathlib.Core.Path.{refl}
use Rattle.machine.proofs.tries.limited.Goals as goal

pub returns : goal.returns
returns c = λ e d. rw (← e, ← d) refl
