use Prim.Native.Nat.{◌+◌}
use Rattle.std.proofs.Common.{arith, rules}
use mathlib.Core.Path.{refl}
use Rattle.frames.specs.Strays.{whole}
use Rattle.machine.specs.Calls.{successor_as}
use Rattle.word_machine.specs.Machine.{regions_from}
use Rattle.machine.proofs.GoalsLaws.{value_as}
use Rattle.machine.proofs.Numbers.{remove_low}
use Rattle.machine.proofs.TryingLaws.{remove_in}
use Rattle.machine.proofs.opened.remove_in.Goals as goal

pub word_in-requires : goal.word_in-requires
word_in-requires c = (omega arith, (whole c.requires.formed.0 _ c.requires.goal_bound.0).1)

pub region-place-requires : goal.region-place-requires
region-place-requires c = (rw c.word_in.ensures.0 (remove_low c.requires.formed.1 _ refl c.requires.goal_bound.1), c.requires.goal_bound.2.fits)

pub note-requires : goal.note-requires
note-requires c = search rules

pub successor-requires : goal.successor-requires
successor-requires c = (whole c.requires.formed.0 _ c.requires.goal_bound.0).0

pub overflow_add-result : goal.overflow_add-result
overflow_add-result c = omega (arith, c.requires.formed.2)

pub returns : goal.returns
returns c = λ images callees m rs. remove_in _ _ _ _ _ _ _ _ _ _ _ c.requires.goal_bound.2.place _ refl c.requires.goal_bound.1 _ (successor_as _ _ _ _ _ c.successor.ensures) _ _ _ (value_as (c.args.state.at + regions_from) _ _ _ c.args.frames.now c.region-place.ensures c.word_in.ensures.0) c.note.ensures (omega arith)
