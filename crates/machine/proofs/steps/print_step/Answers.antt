use Rattle.std.proofs.Common.{arith}
use Rattle.machine.proofs.Numbers.{print_low}
use mathlib.Core.Path.{refl}
use Rattle.frames.specs.Strays.{whole}
use Rattle.machine.specs.Calls.{successor_as}
use Rattle.machine.proofs.GoalsLaws.{value_as}
use Rattle.machine.proofs.StepsLaws.{print_goes, print_stops}
use Rattle.machine.proofs.steps.print_step.Goals as goal

pub returns-then-limit-printed : goal.returns-then-limit-printed
returns-then-limit-printed c = λ images callees m. print_stops _ _ _ _ _ _ c.requires.goal_bound.2 _ refl _ c.requires.goal_bound.1 c.room-limit.ensures c.if-limit-printed.true

pub word_in-requires : goal.word_in-requires
word_in-requires c = let w = whole c.requires.formed.0 _ c.requires.goal_bound.0 in (omega arith, w.1)

pub value-v-requires : goal.value-v-requires
value-v-requires c = (rw c.word_in.ensures.0 (print_low c.requires.formed.1 _ refl c.requires.goal_bound.1), c.requires.goal_bound.2.fits)

pub successor-requires : goal.successor-requires
successor-requires c = (whole c.requires.formed.0 _ c.requires.goal_bound.0).0

pub returns : goal.returns
returns c =
    λ images callees m. print_goes _ _ _ _ _ _ c.requires.goal_bound.2 _ _ refl (successor_as _ _ _ _ _ c.successor.ensures) _ _ _ c.requires.goal_bound.1
    (value_as c.args.state.at _ _ _ c.args.frames.now c.value-v.ensures c.word_in.ensures.0) c.put.ensures c.room-limit.ensures c.if-limit-printed.false
