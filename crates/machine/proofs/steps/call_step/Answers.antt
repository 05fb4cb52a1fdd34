use Rattle.frames.specs.Strays.{whole}
use Rattle.std.proofs.Common.{arith, rules}
use mathlib.Core.Path.{refl}
use Rattle.machine.proofs.CallsLaws.{body_as}
use Rattle.machine.proofs.StepsLaws.{call_goes, call_stops, step_fits}
use Rattle.machine.proofs.steps.call_step.Goals as goal

pub returns-then-limit-above : goal.returns-then-limit-above
returns-then-limit-above c = λ m ps. call_stops _ _ _ _ _ _ c.requires.goal_bound.2 _ refl _ c.requires.goal_bound.1 c.room-limit.ensures (omega (arith, c.if-limit-above.true))

pub call-goal-requires : goal.call-goal-requires
call-goal-requires c = record {
  i_lt_max_records = whole c.requires.formed _ c.requires.goal_bound.0;
  narrow = (c.requires.narrow, step_fits _ _ _ c.requires.goal_bound.2 c.room-limit.ensures (omega (arith, c.if-limit-above.false)));
}

pub overflow_add-result-2 : goal.overflow_add-result-2
overflow_add-result-2 c = let l = step_fits _ _ _ c.requires.goal_bound.2 c.room-limit.ensures (omega (arith, c.if-limit-above.false)) in search rules

pub returns : goal.returns
returns c = λ m ps. call_goes _ _ _ _ _ _ c.requires.goal_bound.2 _ refl _ _ _ _ _ c.requires.goal_bound.1 (body_as _ _ _ _ _ c.call-goal.ensures.value) (c.call-goal.ensures.by_index _ c.requires.goal_bound.2.place) (omega arith) refl c.room-limit.ensures (omega (arith, c.if-limit-above.false))
