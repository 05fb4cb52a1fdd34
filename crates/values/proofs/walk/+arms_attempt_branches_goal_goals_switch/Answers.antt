-- The walk over goals: one law of Along for each way through it. The records ahead fall.
use Rattle.std.proofs.Common.{arith, rules}
use mathlib.Core.Path.{refl}
use Rattle.chains.specs.Is.{chain_next}
use Rattle.chains.specs.Shapes.{switch_here, if_here, try_here, to_arms, to_then, to_else, to_condition, to_try_then, to_try_else, arm_goals_law, arm_next}
use Rattle.walks.specs.Along.{none_walked, along_last, along_stop, along_next, switch_stops, if_unread, if_unread_2, if_then_stops, if_else_stops, if_walked, condition_stops, try_then_stops, try_else_stops, try_walked, arms_none_walked, arm_refused, arm_stops, arm_last, arm_rest_stops, arms_walked}
use Rattle.walks.specs.Closed.{arm_closed}
use Rattle.values.proofs.CarryingLaws.{goal_after, row_arm, switch_after, readable_is, joined}
use Rattle.values.proofs.walk.+arms_attempt_branches_goal_goals_switch.Goals as goal

pub arms-returns-then-i-eq0 : goal.arms-returns-then-i-eq0
arms-returns-then-i-eq0 t c = arms_none_walked _ _ _ c.if-i-eq0.true

pub arms-returns-then-word-ne-ARM : goal.arms-returns-then-word-ne-ARM
arms-returns-then-word-ne-ARM t c = arm_closed c.requires.stands c.if-i-eq0.false c.word.ensures.0 c.if-word-ne-ARM.true

pub arms-returns-in_err-entered : goal.arms-returns-in_err-entered
arms-returns-in_err-entered t c = rw c.from_residual.ensures (arm_refused _ _ c.requires.formed c.requires.stands c.if-i-eq0.false _ _ (row_arm _ c.requires.all_noted _ c.requires.stands c.if-i-eq0.false _ _ _ c.in_err-entered.ensures) _ refl)

pub arms-goals-requires : goal.arms-goals-requires
arms-goals-requires t c = let o = arm_goals_law c.requires.formed c.if-i-eq0.false c.requires.stands c.word-first.ensures.0 in (omega (arith, o.falls, c.decreases), (c.requires.formed, (c.requires.all_noted, o.stands)))

pub arms-returns-in_err-one : goal.arms-returns-in_err-one
arms-returns-in_err-one t c = rw c.from_residual-in_err-one.ensures (arm_stops _ _ c.requires.formed c.requires.stands c.if-i-eq0.false _ _ (row_arm _ c.requires.all_noted _ c.requires.stands c.if-i-eq0.false _ _ _ c.in_ok-entered.ensures) refl _ _ c.word-first.ensures.0 c.in_err-one.ensures _ refl)

pub arms-returns-then-next-eq0 : goal.arms-returns-then-next-eq0
arms-returns-then-next-eq0 t c = arm_last _ _ c.requires.formed c.requires.stands c.if-i-eq0.false _ _ (row_arm _ c.requires.all_noted _ c.requires.stands c.if-i-eq0.false _ _ _ c.in_ok-entered.ensures) refl _ _ c.word-first.ensures.0 c.in_ok-one.ensures refl c.word-next.ensures.0 c.if-next-eq0.true

pub arms-arms-requires : goal.arms-arms-requires
arms-arms-requires t c = let o = arm_next c.requires.formed c.if-i-eq0.false c.requires.stands c.word-next.ensures.0 in (omega (arith, o.falls, c.decreases), (c.requires.formed, (c.requires.all_noted, o.stands)))

pub arms-returns-in_err-other : goal.arms-returns-in_err-other
arms-returns-in_err-other t c = rw c.from_residual-in_err-other.ensures (arm_rest_stops _ _ c.requires.formed c.requires.stands c.if-i-eq0.false _ _ (row_arm _ c.requires.all_noted _ c.requires.stands c.if-i-eq0.false _ _ _ c.in_ok-entered.ensures) refl _ _ c.word-first.ensures.0 c.in_ok-one.ensures refl c.word-next.ensures.0 c.if-next-eq0.false _ refl _ _ c.in_err-other.ensures _ refl)

pub arms-returns : goal.arms-returns
arms-returns t c =
    arms_walked _ _ c.requires.formed c.requires.stands c.if-i-eq0.false _ _ (row_arm _ c.requires.all_noted _ c.requires.stands c.if-i-eq0.false _ _ _ c.in_ok-entered.ensures) refl _ _ c.word-first.ensures.0 c.in_ok-one.ensures refl c.word-next.ensures.0 c.if-next-eq0.false _ refl _ _ c.in_ok-other.ensures _ _ _ refl refl (joined _ _ _ _ c.join.ensures)

pub attempt-word-condition-requires : goal.attempt-word-condition-requires
attempt-word-condition-requires t c = record {
  formed = c.requires.formed;
  k_lt_record_words = (omega arith, (try_here c.requires.formed refl c.requires.kind_word_value).below);
}

pub attempt-goals-requires : goal.attempt-goals-requires
attempt-goals-requires t c = let o = to_condition c.requires.formed c.requires.kind_word_value c.word-condition.ensures.0 in (omega (arith, o.falls, c.decreases), (c.requires.formed, (c.requires.all_noted, o.stands)))

pub attempt-returns-in_err-holds : goal.attempt-returns-in_err-holds
attempt-returns-in_err-holds t c = rw c.from_residual.ensures (condition_stops _ _ c.requires.formed _ c.requires.kind_word_value _ _ _ c.word-condition.ensures.0 c.in_err-holds.ensures _ refl)

pub attempt-word-first-requires : goal.attempt-word-first-requires
attempt-word-first-requires t c = record {
  formed = c.requires.formed;
  k_lt_record_words = (omega arith, (try_here c.requires.formed refl c.requires.kind_word_value).below);
}

pub attempt-goals-requires-2 : goal.attempt-goals-requires-2
attempt-goals-requires-2 t c = let o = to_try_then c.requires.formed c.requires.kind_word_value c.word-first.ensures.0 in (omega (arith, o.falls, c.decreases), (c.requires.formed, (c.requires.all_noted, o.stands)))

pub attempt-returns-in_err-one : goal.attempt-returns-in_err-one
attempt-returns-in_err-one t c = rw c.from_residual-in_err-one.ensures (try_then_stops _ _ c.requires.formed _ c.requires.kind_word_value _ _ _ c.word-condition.ensures.0 c.in_ok-holds.ensures refl _ _ c.word-first.ensures.0 c.in_err-one.ensures _ refl)

pub attempt-word-otherwise-requires : goal.attempt-word-otherwise-requires
attempt-word-otherwise-requires t c = record {
  formed = c.requires.formed;
  k_lt_record_words = (omega arith, (try_here c.requires.formed refl c.requires.kind_word_value).below);
}

pub attempt-returns-then-otherwise-eq0 : goal.attempt-returns-then-otherwise-eq0
attempt-returns-then-otherwise-eq0 t c = try_walked _ _ c.requires.formed _ c.requires.kind_word_value _ _ _ c.word-condition.ensures.0 c.in_ok-holds.ensures refl _ _ c.word-first.ensures.0 c.in_ok-one.ensures refl _ refl _ _ c.word-otherwise.ensures.0 (none_walked _ _ _ c.if-otherwise-eq0.true) _ _ _ refl refl (joined _ _ _ _ c.join.ensures)

pub attempt-goals-requires-3 : goal.attempt-goals-requires-3
attempt-goals-requires-3 t c = let o = to_try_else c.requires.formed c.requires.kind_word_value c.word-otherwise.ensures.0 in (omega (arith, o.falls, c.decreases), (c.requires.formed, (c.requires.all_noted, o.stands)))

pub attempt-returns-in_err-other : goal.attempt-returns-in_err-other
attempt-returns-in_err-other t c = rw c.from_residual-in_err-other.ensures (try_else_stops _ _ c.requires.formed _ c.requires.kind_word_value _ _ _ c.word-condition.ensures.0 c.in_ok-holds.ensures refl _ _ c.word-first.ensures.0 c.in_ok-one.ensures refl _ refl _ _ c.word-otherwise.ensures.0 c.in_err-other.ensures _ refl)

pub attempt-returns : goal.attempt-returns
attempt-returns t c = try_walked _ _ c.requires.formed _ c.requires.kind_word_value _ _ _ c.word-condition.ensures.0 c.in_ok-holds.ensures refl _ _ c.word-first.ensures.0 c.in_ok-one.ensures refl _ refl _ _ c.word-otherwise.ensures.0 c.in_ok-other.ensures _ _ _ refl refl (joined _ _ _ _ c.join-2.ensures)

pub branches-word-requires : goal.branches-word-requires
branches-word-requires t c = record {
  formed = c.requires.formed;
  k_lt_record_words = (omega arith, (if_here c.requires.formed refl c.requires.kind_word_value).below);
}

pub branches-returns-then-not-has : goal.branches-returns-then-not-has
branches-returns-then-not-has t c = if_unread _ _ c.requires.formed _ c.requires.kind_word_value _ c.word.ensures.0 (readable_is _ _ _ c.has.ensures) _ c.if-not-has.true

pub branches-word-requires-2 : goal.branches-word-requires-2
branches-word-requires-2 t c = record {
  formed = c.requires.formed;
  k_lt_record_words = (omega arith, (if_here c.requires.formed refl c.requires.kind_word_value).below);
}

pub branches-returns-then-not-has-2 : goal.branches-returns-then-not-has-2
branches-returns-then-not-has-2 t c = if_unread_2 _ _ c.requires.formed _ c.requires.kind_word_value _ c.word.ensures.0 (readable_is _ _ _ c.has.ensures) c.if-not-has.false c.word-2.ensures.0 (readable_is _ _ _ c.has-2.ensures) _ c.if-not-has-2.true

pub branches-word-first-requires : goal.branches-word-first-requires
branches-word-first-requires t c = record {
  formed = c.requires.formed;
  k_lt_record_words = (omega arith, (if_here c.requires.formed refl c.requires.kind_word_value).below);
}

pub branches-goals-requires : goal.branches-goals-requires
branches-goals-requires t c = let o = to_then c.requires.formed c.requires.kind_word_value c.word-first.ensures.0 in (omega (arith, o.falls, c.decreases), (c.requires.formed, (c.requires.all_noted, o.stands)))

pub branches-returns-in_err-one : goal.branches-returns-in_err-one
branches-returns-in_err-one t c = rw c.from_residual.ensures (if_then_stops _ _ c.requires.formed _ c.requires.kind_word_value _ c.word.ensures.0 (readable_is _ _ _ c.has.ensures) c.if-not-has.false c.word-2.ensures.0 (readable_is _ _ _ c.has-2.ensures) c.if-not-has-2.false _ _ c.word-first.ensures.0 c.in_err-one.ensures _ refl)

pub branches-word-second-requires : goal.branches-word-second-requires
branches-word-second-requires t c = record {
  formed = c.requires.formed;
  k_lt_record_words = (omega arith, (if_here c.requires.formed refl c.requires.kind_word_value).below);
}

pub branches-returns-then-second-eq0 : goal.branches-returns-then-second-eq0
branches-returns-then-second-eq0 t c = if_walked _ _ c.requires.formed _ c.requires.kind_word_value _ c.word.ensures.0 (readable_is _ _ _ c.has.ensures) c.if-not-has.false c.word-2.ensures.0 (readable_is _ _ _ c.has-2.ensures) c.if-not-has-2.false _ _ c.word-first.ensures.0 c.in_ok-one.ensures refl _ refl _ _ c.word-second.ensures.0 (none_walked _ _ _ c.if-second-eq0.true) _ _ _ refl refl (joined _ _ _ _ c.join.ensures)

pub branches-goals-requires-2 : goal.branches-goals-requires-2
branches-goals-requires-2 t c = let o = to_else c.requires.formed c.requires.kind_word_value c.word-second.ensures.0 in (omega (arith, o.falls, c.decreases), (c.requires.formed, (c.requires.all_noted, o.stands)))

pub branches-returns-in_err-other : goal.branches-returns-in_err-other
branches-returns-in_err-other t c = rw c.from_residual-in_err-other.ensures (if_else_stops _ _ c.requires.formed _ c.requires.kind_word_value _ c.word.ensures.0 (readable_is _ _ _ c.has.ensures) c.if-not-has.false c.word-2.ensures.0 (readable_is _ _ _ c.has-2.ensures) c.if-not-has-2.false _ _ c.word-first.ensures.0 c.in_ok-one.ensures refl _ refl _ _ c.word-second.ensures.0 c.in_err-other.ensures _ refl)

pub branches-returns : goal.branches-returns
branches-returns t c = if_walked _ _ c.requires.formed _ c.requires.kind_word_value _ c.word.ensures.0 (readable_is _ _ _ c.has.ensures) c.if-not-has.false c.word-2.ensures.0 (readable_is _ _ _ c.has-2.ensures) c.if-not-has-2.false _ _ c.word-first.ensures.0 c.in_ok-one.ensures refl _ refl _ _ c.word-second.ensures.0 c.in_ok-other.ensures _ _ _ refl refl (joined _ _ _ _ c.join-2.ensures)

pub goal-returns-in_default : goal.goal-returns-in_default
goal-returns-in_default t c = goal_after _ c.requires.all_noted c.requires.formed _ c.requires.stands.0 c.requires.stands.1 refl (search rules) (search rules) (search rules) _ _ c.after.ensures

pub goals-returns-in_err-carried : goal.goals-returns-in_err-carried
goals-returns-in_err-carried t c = rw c.from_residual.ensures (along_stop _ _ c.requires.formed c.loop-i.invariant c.loop-i-test.true _ c.in_err-carried.ensures _ refl)

pub goals-loop-i-smaller : goal.goals-loop-i-smaller
goals-loop-i-smaller t c = (chain_next c.requires.formed c.loop-i.invariant.stands c.loop-i-test.true c.word-i.ensures.0).falls

pub goals-loop-i-preserved : goal.goals-loop-i-preserved
goals-loop-i-preserved t c = along_next _ _ c.requires.formed c.loop-i.invariant c.loop-i-test.true _ c.in_ok-carried.ensures refl c.word-i.ensures.0

pub goals-returns : goal.goals-returns
goals-returns t c = along_last _ _ c.requires.formed c.loop-i.invariant c.loop-i-test.false

pub switch-word-requires : goal.switch-word-requires
switch-word-requires t c = record {
  formed = c.requires.formed;
  k_lt_record_words = (omega arith, (switch_here c.requires.formed refl c.requires.kind_word_value).below);
}

pub switch-returns-then-not-has : goal.switch-returns-then-not-has
switch-returns-then-not-has t c = switch_stops _ _ c.requires.formed _ c.requires.kind_word_value _ c.word.ensures.0 (readable_is _ _ _ c.has.ensures) _ c.if-not-has.true

pub switch-word-first-requires : goal.switch-word-first-requires
switch-word-first-requires t c = record {
  formed = c.requires.formed;
  k_lt_record_words = (omega arith, (switch_here c.requires.formed refl c.requires.kind_word_value).below);
}

pub switch-arms-requires : goal.switch-arms-requires
switch-arms-requires t c = let o = to_arms c.requires.formed c.requires.kind_word_value c.word-first.ensures.0 in (omega (arith, o.falls, c.decreases), (c.requires.formed, (c.requires.all_noted, o.stands)))

pub switch-returns : goal.switch-returns
switch-returns t c = switch_after _ _ c.requires.formed c.requires.kind_word_value c.word.ensures.0 c.has.ensures c.if-not-has.false c.word-first.ensures.0 _ c.arms.ensures
