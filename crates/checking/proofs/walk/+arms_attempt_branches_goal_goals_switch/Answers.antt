-- The walk over goals: one law of Walking for each way through it. The records ahead fall.
use Rattle.std.proofs.Common.{arith, rules}
use mathlib.Core.Path.{refl}
use Rattle.chains.specs.Shapes.{switch_here, if_here, try_here, to_arms, to_then, to_else, to_condition, to_try_then, to_try_else, arm_goals_law, arm_next}
use Rattle.walks.specs.Closed.{goal_closed, arm_closed}
use Rattle.checking.specs.Ready.{GoalChecked, ArmsChecked}
use Rattle.checking.proofs.CarriedLaws.{after_join}
use Rattle.checking.proofs.Walking.{none_checked, walk_last, walk_onward, walk_stop, walk_next, step_after, switch_broken, switch_after, if_broken, if_broken_2, then_broken, else_broken, if_done, condition_broken, try_then_broken, try_else_broken, try_done, arms_none_checked, arm_broken, arm_ended, rest_broken, arm_more}
use Rattle.checking.proofs.walk.+arms_attempt_branches_goal_goals_switch.Goals as goal

pub arms-returns-then-i-eq0 : goal.arms-returns-then-i-eq0
arms-returns-then-i-eq0 t c = arms_none_checked _ _ _ _ _ c.if-i-eq0.true

pub arms-returns-then-word-ne-ARM : goal.arms-returns-then-word-ne-ARM
arms-returns-then-word-ne-ARM t c =
    arm_closed c.requires.stands c.if-i-eq0.false c.word.ensures.0 c.if-word-ne-ARM.true

pub arms-goals-requires : goal.arms-goals-requires
arms-goals-requires t c =
    let o = arm_goals_law c.requires.formed c.if-i-eq0.false c.requires.stands c.word-inside.ensures.0 in
    (omega (arith, o.falls, c.decreases), (c.requires.formed, o.stands))

pub arms-returns-in_err-one : goal.arms-returns-in_err-one
arms-returns-in_err-one t c = rw c.from_residual.ensures (arm_broken _ _ _ _ c.requires.formed c.requires.stands c.if-i-eq0.false _ c.enter-entered.ensures.0 c.enter-entered.ensures.1 c.word-inside.ensures.0 _ _ c.in_err-one.ensures _ refl)

pub arms-returns-then-next-eq0 : goal.arms-returns-then-next-eq0
arms-returns-then-next-eq0 t c = arm_ended _ _ _ _ c.requires.formed c.requires.stands c.if-i-eq0.false _ c.enter-entered.ensures.0 c.enter-entered.ensures.1 c.word-inside.ensures.0 _ _ c.in_ok-one.ensures refl c.word-next.ensures.0 c.if-next-eq0.true

pub arms-arms-requires : goal.arms-arms-requires
arms-arms-requires t c =
    let o = arm_next c.requires.formed c.if-i-eq0.false c.requires.stands c.word-next.ensures.0 in
    (omega (arith, o.falls, c.decreases), (c.requires.formed, o.stands))

pub arms-returns-in_err-other : goal.arms-returns-in_err-other
arms-returns-in_err-other t c =
    rw c.from_residual-in_err-other.ensures (rest_broken _ _ _ _ c.requires.formed c.requires.stands c.if-i-eq0.false _ c.enter-entered.ensures.0 c.enter-entered.ensures.1 c.word-inside.ensures.0 _ _ c.in_ok-one.ensures refl c.word-next.ensures.0 c.if-next-eq0.false _ refl refl _ _ c.in_err-other.ensures _ refl)

pub arms-returns : goal.arms-returns
arms-returns t c =
    after_join (λ y d. ArmsChecked c.args.file.now c.args.rows.now c.args.own.now c.args.i c.args.before y d) _ _ _ _ c.join.ensures
    (λ y d h. arm_more _ _ _ _ c.requires.formed c.requires.stands c.if-i-eq0.false _ c.enter-entered.ensures.0 c.enter-entered.ensures.1 c.word-inside.ensures.0 _ _ c.in_ok-one.ensures refl c.word-next.ensures.0 c.if-next-eq0.false _ refl refl _ _ c.in_ok-other.ensures y d refl refl refl h)

pub attempt-word-condition-requires : goal.attempt-word-condition-requires
attempt-word-condition-requires t c = record {
  formed = c.requires.formed;
  k_lt_record_words = (omega arith, (try_here c.requires.formed refl c.requires.fact).below);
}

pub attempt-goals-requires : goal.attempt-goals-requires
attempt-goals-requires t c = let o = to_condition c.requires.formed c.requires.fact c.word-condition.ensures.0 in (omega (arith, o.falls, c.decreases), (c.requires.formed, o.stands))

pub attempt-returns-in_err-holds : goal.attempt-returns-in_err-holds
attempt-returns-in_err-holds t c = rw c.from_residual.ensures (condition_broken _ _ _ c.requires.formed c.requires.fact c.word-condition.ensures.0 _ _ c.in_err-holds.ensures _ refl)

pub attempt-word-yes-requires : goal.attempt-word-yes-requires
attempt-word-yes-requires t c = record {
  formed = c.requires.formed;
  k_lt_record_words = (omega arith, (try_here c.requires.formed refl c.requires.fact).below);
}

pub attempt-goals-requires-2 : goal.attempt-goals-requires-2
attempt-goals-requires-2 t c = let o = to_try_then c.requires.formed c.requires.fact c.word-yes.ensures.0 in (omega (arith, o.falls, c.decreases), (c.requires.formed, o.stands))

pub attempt-returns-in_err-one : goal.attempt-returns-in_err-one
attempt-returns-in_err-one t c = rw c.from_residual-in_err-one.ensures (try_then_broken _ _ _ c.requires.formed c.requires.fact c.word-condition.ensures.0 _ _ c.in_ok-holds.ensures refl c.word-yes.ensures.0 _ _ c.in_err-one.ensures _ refl)

pub attempt-word-otherwise-requires : goal.attempt-word-otherwise-requires
attempt-word-otherwise-requires t c = record {
  formed = c.requires.formed;
  k_lt_record_words = (omega arith, (try_here c.requires.formed refl c.requires.fact).below);
}

pub attempt-returns-then-otherwise-eq0 : goal.attempt-returns-then-otherwise-eq0
attempt-returns-then-otherwise-eq0 t c =
    after_join (λ y d. GoalChecked c.args.file.now c.args.rows.now c.args.own.now c.args.i c.args.before y d) _ _ _ _ c.join.ensures
    (λ y d h. try_done _ _ _ c.requires.formed c.requires.fact c.word-condition.ensures.0 _ _ c.in_ok-holds.ensures refl c.word-yes.ensures.0 _ _ c.in_ok-one.ensures refl c.word-otherwise.ensures.0 _ refl refl _ _ (none_checked _ _ _ _ c.if-otherwise-eq0.true) y d refl refl refl h)

pub attempt-goals-requires-3 : goal.attempt-goals-requires-3
attempt-goals-requires-3 t c = let o = to_try_else c.requires.formed c.requires.fact c.word-otherwise.ensures.0 in (omega (arith, o.falls, c.decreases), (c.requires.formed, o.stands))

pub attempt-returns-in_err-other : goal.attempt-returns-in_err-other
attempt-returns-in_err-other t c = rw c.from_residual-in_err-other.ensures (try_else_broken _ _ _ c.requires.formed c.requires.fact c.word-condition.ensures.0 _ _ c.in_ok-holds.ensures refl c.word-yes.ensures.0 _ _ c.in_ok-one.ensures refl c.word-otherwise.ensures.0 _ refl refl _ _ c.in_err-other.ensures _ refl)

pub attempt-returns : goal.attempt-returns
attempt-returns t c =
    after_join (λ y d. GoalChecked c.args.file.now c.args.rows.now c.args.own.now c.args.i c.args.before y d) _ _ _ _ c.join-2.ensures
    (λ y d h. try_done _ _ _ c.requires.formed c.requires.fact c.word-condition.ensures.0 _ _ c.in_ok-holds.ensures refl c.word-yes.ensures.0 _ _ c.in_ok-one.ensures refl c.word-otherwise.ensures.0 _ refl refl _ _ c.in_ok-other.ensures y d refl refl refl h)

pub branches-word-requires : goal.branches-word-requires
branches-word-requires t c = record {
  formed = c.requires.formed;
  k_lt_record_words = (omega arith, (if_here c.requires.formed refl c.requires.fact).below);
}

pub branches-returns-then-not-has : goal.branches-returns-then-not-has
branches-returns-then-not-has t c = if_broken _ _ _ c.requires.formed c.requires.fact refl c.word.ensures.0 c.has.ensures _ c.if-not-has.true

pub branches-word-requires-2 : goal.branches-word-requires-2
branches-word-requires-2 t c = record {
  formed = c.requires.formed;
  k_lt_record_words = (omega arith, (if_here c.requires.formed refl c.requires.fact).below);
}

pub branches-returns-then-not-has-2 : goal.branches-returns-then-not-has-2
branches-returns-then-not-has-2 t c = if_broken_2 _ _ _ c.requires.formed c.requires.fact refl c.word.ensures.0 c.has.ensures c.if-not-has.false c.word-2.ensures.0 c.has-2.ensures _ c.if-not-has-2.true

pub branches-word-yes-requires : goal.branches-word-yes-requires
branches-word-yes-requires t c = record {
  formed = c.requires.formed;
  k_lt_record_words = (omega arith, (if_here c.requires.formed refl c.requires.fact).below);
}

pub branches-goals-requires : goal.branches-goals-requires
branches-goals-requires t c = let o = to_then c.requires.formed c.requires.fact c.word-yes.ensures.0 in (omega (arith, o.falls, c.decreases), (c.requires.formed, o.stands))

pub branches-returns-in_err-one : goal.branches-returns-in_err-one
branches-returns-in_err-one t c = rw c.from_residual.ensures (then_broken _ _ _ c.requires.formed c.requires.fact refl c.word.ensures.0 c.has.ensures c.if-not-has.false c.word-2.ensures.0 c.has-2.ensures c.if-not-has-2.false c.word-yes.ensures.0 _ _ c.in_err-one.ensures _ refl)

pub branches-word-no-requires : goal.branches-word-no-requires
branches-word-no-requires t c = record {
  formed = c.requires.formed;
  k_lt_record_words = (omega arith, (if_here c.requires.formed refl c.requires.fact).below);
}

pub branches-returns-then-no-eq0 : goal.branches-returns-then-no-eq0
branches-returns-then-no-eq0 t c =
    after_join (λ y d. GoalChecked c.args.file.now c.args.rows.now c.args.own.now c.args.i c.args.before y d) _ _ _ _ c.join.ensures
    (λ y d h. if_done _ _ _ c.requires.formed c.requires.fact refl c.word.ensures.0 c.has.ensures c.if-not-has.false c.word-2.ensures.0 c.has-2.ensures c.if-not-has-2.false c.word-yes.ensures.0 _ _ c.in_ok-one.ensures refl c.word-no.ensures.0 _ refl refl _ _ (none_checked _ _ _ _ c.if-no-eq0.true) y d refl refl refl h)

pub branches-goals-requires-2 : goal.branches-goals-requires-2
branches-goals-requires-2 t c = let o = to_else c.requires.formed c.requires.fact c.word-no.ensures.0 in (omega (arith, o.falls, c.decreases), (c.requires.formed, o.stands))

pub branches-returns-in_err-other : goal.branches-returns-in_err-other
branches-returns-in_err-other t c = rw c.from_residual-in_err-other.ensures (else_broken _ _ _ c.requires.formed c.requires.fact refl c.word.ensures.0 c.has.ensures c.if-not-has.false c.word-2.ensures.0 c.has-2.ensures c.if-not-has-2.false c.word-yes.ensures.0 _ _ c.in_ok-one.ensures refl c.word-no.ensures.0 _ refl refl _ _ c.in_err-other.ensures _ refl)

pub branches-returns : goal.branches-returns
branches-returns t c =
    after_join (λ y d. GoalChecked c.args.file.now c.args.rows.now c.args.own.now c.args.i c.args.before y d) _ _ _ _ c.join-2.ensures
    (λ y d h. if_done _ _ _ c.requires.formed c.requires.fact refl c.word.ensures.0 c.has.ensures c.if-not-has.false c.word-2.ensures.0 c.has-2.ensures c.if-not-has-2.false c.word-yes.ensures.0 _ _ c.in_ok-one.ensures refl c.word-no.ensures.0 _ refl refl _ _ c.in_ok-other.ensures y d refl refl refl h)

pub goal-returns-then-not-is_step : goal.goal-returns-then-not-is_step
goal-returns-then-not-is_step t c =
    goal_closed c.requires.formed _ c.requires.stands.0 c.requires.stands.1 c.word.ensures.0 (search rules) (search rules) (search rules) c.is_step.ensures c.if-not-is_step.true

pub goal-returns-else-not-is_step : goal.goal-returns-else-not-is_step
goal-returns-else-not-is_step t c = step_after _ _ _ _ c.requires.formed c.requires.stands.0 c.requires.stands.1 refl (search rules) (search rules) (search rules) _ c.step.ensures

pub goals-returns-in_err-carried : goal.goals-returns-in_err-carried
goals-returns-in_err-carried t c = rw c.from_residual.ensures (walk_stop c.requires.formed c.loop-i.invariant c.loop-i-test.true _ _ c.in_err-carried.ensures _ refl)

pub goals-loop-i-smaller : goal.goals-loop-i-smaller
goals-loop-i-smaller t c =
    (walk_onward c.requires.formed c.loop-i.invariant c.loop-i-test.true c.word-i.ensures.0).falls

pub goals-loop-i-preserved : goal.goals-loop-i-preserved
goals-loop-i-preserved t c = walk_next c.requires.formed c.loop-i.invariant c.loop-i-test.true _ _ c.in_ok-carried.ensures refl c.word-i.ensures.0

pub goals-returns : goal.goals-returns
goals-returns t c = walk_last c.requires.formed c.loop-i.invariant c.loop-i-test.false

pub switch-word-requires : goal.switch-word-requires
switch-word-requires t c = record {
  formed = c.requires.formed;
  k_lt_record_words = (omega arith, (switch_here c.requires.formed refl c.requires.switch).below);
}

pub switch-returns-then-not-has : goal.switch-returns-then-not-has
switch-returns-then-not-has t c = switch_broken _ _ _ c.requires.formed c.requires.switch refl c.word.ensures.0 c.has.ensures _ c.if-not-has.true

pub switch-word-first-requires : goal.switch-word-first-requires
switch-word-first-requires t c = record {
  formed = c.requires.formed;
  k_lt_record_words = (omega arith, (switch_here c.requires.formed refl c.requires.switch).below);
}

pub switch-arms-requires : goal.switch-arms-requires
switch-arms-requires t c = let o = to_arms c.requires.formed c.requires.switch c.word-first.ensures.0 in (omega (arith, o.falls, c.decreases), (c.requires.formed, o.stands))

pub switch-returns : goal.switch-returns
switch-returns t c = switch_after _ _ _ _ c.requires.formed c.requires.switch refl c.word.ensures.0 c.has.ensures c.if-not-has.false c.word-first.ensures.0 _ c.arms.ensures
