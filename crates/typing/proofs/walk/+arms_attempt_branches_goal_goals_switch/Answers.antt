-- The walk over goals: a chain of goals, a goal, an if, a try, a switch, its arms. The records still ahead fall.
use native.Mathlib.Numerals.{add-one}
use Rattle.std.proofs.Common.{arith}
use mathlib.Core.Path.{refl, sym, ◌∙◌}
use Rattle.chains.specs.Formed.{ahead_below}
use Rattle.chains.specs.Is.{chain_next}
use Rattle.chains.specs.Shapes.{to_arms, to_then, to_else, to_condition, to_try_then, to_try_else, arm_goals_law}
use Rattle.declarations.specs.Functors.{stands_same}
use Rattle.declarations.specs.Declares.{functor_stands}
use Rattle.declarations.specs.Own.{variable_stands}
use Rattle.typing.proofs.ArgumentsLaws.{arm_some}
use Rattle.typing.proofs.WalkLaws.{goals_no, goals_yes, goals_end, if_first, if_second, if_then_law, if_else_law, try_condition_law, try_then_law, try_else_law, switch_none, switch_number, switch_arms_law, arms_unfit, arms_goals, arms_next, arms_end}
use Rattle.typing.proofs.walk.+arms_attempt_branches_goal_goals_switch.Goals as goal
use Rattle.typing.proofs.walk.+arms_attempt_branches_goal_goals_switch.Goals.{arms-else-inner-ne0, arms-then-inner-ne0+else-not-goals, attempt-else-first-ne0, attempt-then-first-ne0+else-not-goals-2}

pub arms-loop-i-init : goal.arms-loop-i-init
arms-loop-i-init t c = (c.requires.stands.0, c.requires.stands.1, omega arith, omega (arith, ahead_below c.requires.declares.0.formed c.args.first), refl)

pub arms-arm_fits-requires : goal.arms-arm_fits-requires
arms-arm_fits-requires t c = record {
  formed = (c.requires.declares.0.formed, c.requires.declares.1);
  g_bound = (c.loop-i.invariant.1.below, c.loop-i.invariant.0.below);
}

pub arms-returns-then-not-arm_fits : goal.arms-returns-then-not-arm_fits
arms-returns-then-not-arm_fits t c = arms_unfit c.requires.declares.0.formed _ _ _ _ c.loop-i.invariant.0 c.loop-i-test.true c.loop-i.invariant.1 c.arm_fits.ensures c.if-not-arm_fits.true ∙ c.loop-i.invariant.4

pub arms-word-inner-requires : goal.arms-word-inner-requires
arms-word-inner-requires t c = record {
  formed = c.requires.declares.0.formed;
  k_lt_record_words = (omega arith, c.loop-i.invariant.0.below);
}

pub arms-goals-requires : goal.arms-goals-requires
arms-goals-requires t c = let o = arm_goals_law c.requires.declares.0.formed c.loop-i-test.true c.loop-i.invariant.0 c.word-inner.ensures.0 in
    (omega (arith, o.falls, c.loop-i.invariant.2, c.decreases), (c.requires.declares, o.stands))

pub arms-returns-then-not-goals : goal.arms-returns-then-not-goals
arms-returns-then-not-goals t c = arms_goals c.requires.declares.0.formed _ _ _ _ c.loop-i.invariant.0 c.loop-i-test.true c.loop-i.invariant.1 c.arm_fits.ensures c.if-not-arm_fits.false c.word-inner.ensures.0 c.goals.ensures c.if-not-goals.true ∙ c.loop-i.invariant.4

pub arms-overflow_add-n : goal.arms-overflow_add-n
arms-overflow_add-n t c = omega (arith, c.loop-i.invariant.3)

pub arms-word-g-requires : goal.arms-word-g-requires
arms-word-g-requires t c = record {
  formed = c.requires.declares.0.formed;
  k_lt_record_words = (omega arith, c.loop-i.invariant.1.below);
}

pub arms-word-i-requires : goal.arms-word-i-requires
arms-word-i-requires t c = record {
  formed = c.requires.declares.0.formed;
  k_lt_record_words = (omega arith, c.loop-i.invariant.0.below);
}

pub arms-loop-i-smaller : goal.arms-loop-i-smaller
arms-loop-i-smaller t c = (chain_next c.requires.declares.0.formed c.loop-i.invariant.0 c.loop-i-test.true c.word-i.ensures.0).falls

pub arms-loop-i-preserved : goal.arms-loop-i-preserved
arms-loop-i-preserved t c = let F = c.requires.declares.0.formed in
    let l = c.loop-i.invariant in
    let z = c.loop-i-test.true in
    let o = chain_next F l.0 z c.word-i.ensures.0 in
    let p = c.if-not-arm_fits.false in (
      o.stands,
      (chain_next F l.1 (arm_some _ _ _ _ _ c.arm_fits.ensures p) c.word-g.ensures.0).stands,
      omega (arith, o.falls, l.2),
      omega (arith, o.falls, l.3),
      arms_next F _ _ _ _ l.0 z l.1 c.arm_fits.ensures p c.word-inner.ensures.0 ((elim c.if-inner-ne0.branch [ arms-then-inner-ne0+else-not-goals w ↦ sym w.if-not-goals.false ∙ w.goals.ensures | arms-else-inner-ne0 w ↦ goals_end _ _ w.if-inner-ne0.false ])) refl c.word-i.ensures.0 c.word-g.ensures.0 (add-one c.loop-i.n) ∙ l.4,
    )

pub arms-returns : goal.arms-returns
arms-returns t c = arms_end c.requires.declares.0.formed _ _ _ _ c.loop-i.invariant.1 c.loop-i-test.false ∙ c.loop-i.invariant.4

pub attempt-word-requires : goal.attempt-word-requires
attempt-word-requires t c = record {
  formed = c.requires.declares.0.formed;
  k_lt_record_words = (omega arith, c.requires.fact.1);
}

pub attempt-goals-requires : goal.attempt-goals-requires
attempt-goals-requires t c = let o = to_condition c.requires.declares.0.formed c.requires.fact.0 c.word.ensures.0 in (omega (arith, o.falls, c.decreases), (c.requires.declares, o.stands))

pub attempt-returns-then-not-goals : goal.attempt-returns-then-not-goals
attempt-returns-then-not-goals t c = try_condition_law c.requires.declares.0.formed _ _ c.requires.fact.0 c.word.ensures.0 c.goals.ensures c.if-not-goals.true

pub attempt-word-first-requires : goal.attempt-word-first-requires
attempt-word-first-requires t c = record {
  formed = c.requires.declares.0.formed;
  k_lt_record_words = (omega arith, c.requires.fact.1);
}

pub attempt-goals-requires-then-first-ne0 : goal.attempt-goals-requires-then-first-ne0
attempt-goals-requires-then-first-ne0 t c = let o = to_try_then c.requires.declares.0.formed c.requires.fact.0 c.word-first.ensures.0 in (omega (arith, o.falls, c.decreases), (c.requires.declares, o.stands))

pub attempt-returns-then-not-goals-2 : goal.attempt-returns-then-not-goals-2
attempt-returns-then-not-goals-2 t c = try_then_law c.requires.declares.0.formed _ _ c.requires.fact.0 c.word.ensures.0 c.goals.ensures c.if-not-goals.false c.word-first.ensures.0 c.goals-then-first-ne0.ensures c.if-not-goals-2.true

pub attempt-word-otherwise-requires : goal.attempt-word-otherwise-requires
attempt-word-otherwise-requires t c = record {
  formed = c.requires.declares.0.formed;
  k_lt_record_words = (omega arith, c.requires.fact.1);
}

pub attempt-returns-then-otherwise-eq0 : goal.attempt-returns-then-otherwise-eq0
attempt-returns-then-otherwise-eq0 t c = try_else_law c.requires.declares.0.formed _ _ c.requires.fact.0 c.word.ensures.0 c.goals.ensures c.if-not-goals.false c.word-first.ensures.0 ((elim c.if-first-ne0.branch [ attempt-then-first-ne0+else-not-goals-2 w ↦ sym w.if-not-goals-2.false ∙ w.goals-then-first-ne0.ensures | attempt-else-first-ne0 w ↦ goals_end _ _ w.if-first-ne0.false ])) refl c.word-otherwise.ensures.0 (goals_end _ _ c.if-otherwise-eq0.true)

pub attempt-goals-requires-2 : goal.attempt-goals-requires-2
attempt-goals-requires-2 t c = let o = to_try_else c.requires.declares.0.formed c.requires.fact.0 c.word-otherwise.ensures.0 in (omega (arith, o.falls, c.decreases), (c.requires.declares, o.stands))

pub attempt-returns : goal.attempt-returns
attempt-returns t c = try_else_law c.requires.declares.0.formed _ _ c.requires.fact.0 c.word.ensures.0 c.goals.ensures c.if-not-goals.false c.word-first.ensures.0 ((elim c.if-first-ne0.branch [ attempt-then-first-ne0+else-not-goals-2 w ↦ sym w.if-not-goals-2.false ∙ w.goals-then-first-ne0.ensures | attempt-else-first-ne0 w ↦ goals_end _ _ w.if-first-ne0.false ])) refl c.word-otherwise.ensures.0 c.goals-2.ensures

pub branches-is_number-requires : goal.branches-is_number-requires
branches-is_number-requires t c = record {
  formed = (c.requires.declares.0.formed, c.requires.declares.1);
  k_lt_record_words = (omega arith, c.requires.fact.1);
}

pub branches-returns-then-not-is_number : goal.branches-returns-then-not-is_number
branches-returns-then-not-is_number t c = if_first c.requires.declares.0.formed _ _ c.requires.fact.0 c.is_number.ensures c.if-not-is_number.true

pub branches-is_number-requires-2 : goal.branches-is_number-requires-2
branches-is_number-requires-2 t c = record {
  formed = (c.requires.declares.0.formed, c.requires.declares.1);
  k_lt_record_words = (omega arith, c.requires.fact.1);
}

pub branches-returns-then-not-is_number-2 : goal.branches-returns-then-not-is_number-2
branches-returns-then-not-is_number-2 t c = if_second c.requires.declares.0.formed _ _ c.requires.fact.0 c.is_number.ensures c.if-not-is_number.false c.is_number-2.ensures c.if-not-is_number-2.true

pub branches-word-requires : goal.branches-word-requires
branches-word-requires t c = record {
  formed = c.requires.declares.0.formed;
  k_lt_record_words = (omega arith, c.requires.fact.1);
}

pub branches-goals-requires : goal.branches-goals-requires
branches-goals-requires t c = let o = to_then c.requires.declares.0.formed c.requires.fact.0 c.word.ensures.0 in (omega (arith, o.falls, c.decreases), (c.requires.declares, o.stands))

pub branches-returns-then-not-goals : goal.branches-returns-then-not-goals
branches-returns-then-not-goals t c = if_then_law c.requires.declares.0.formed _ _ c.requires.fact.0 c.is_number.ensures c.if-not-is_number.false c.is_number-2.ensures c.if-not-is_number-2.false c.word.ensures.0 c.goals.ensures c.if-not-goals.true

pub branches-word-second-requires : goal.branches-word-second-requires
branches-word-second-requires t c = record {
  formed = c.requires.declares.0.formed;
  k_lt_record_words = (omega arith, c.requires.fact.1);
}

pub branches-returns-then-second-eq0 : goal.branches-returns-then-second-eq0
branches-returns-then-second-eq0 t c = if_else_law c.requires.declares.0.formed _ _ c.requires.fact.0 c.is_number.ensures c.if-not-is_number.false c.is_number-2.ensures c.if-not-is_number-2.false c.word.ensures.0 c.goals.ensures c.if-not-goals.false c.word-second.ensures.0 (goals_end _ _ c.if-second-eq0.true)

pub branches-goals-requires-2 : goal.branches-goals-requires-2
branches-goals-requires-2 t c = let o = to_else c.requires.declares.0.formed c.requires.fact.0 c.word-second.ensures.0 in (omega (arith, o.falls, c.decreases), (c.requires.declares, o.stands))

pub branches-returns : goal.branches-returns
branches-returns t c = if_else_law c.requires.declares.0.formed _ _ c.requires.fact.0 c.is_number.ensures c.if-not-is_number.false c.is_number-2.ensures c.if-not-is_number-2.false c.word.ensures.0 c.goals.ensures c.if-not-goals.false c.word-second.ensures.0 c.goals-2.ensures

pub goals-loop-i-init : goal.goals-loop-i-init
goals-loop-i-init t c = (c.requires.stands, omega arith, refl)

pub goals-goal-requires : goal.goals-goal-requires
goals-goal-requires t c = (omega (arith, c.loop-i.invariant.1, c.decreases), (c.requires.declares, (c.loop-i.invariant.0, c.loop-i-test.true)))

pub goals-returns-then-not-goal : goal.goals-returns-then-not-goal
goals-returns-then-not-goal t c = goals_no _ _ _ c.requires.declares.0.formed c.loop-i.invariant.0 c.loop-i-test.true c.goal.ensures c.if-not-goal.true ∙ c.loop-i.invariant.2

pub goals-word-i-requires : goal.goals-word-i-requires
goals-word-i-requires t c = record {
  formed = c.requires.declares.0.formed;
  k_lt_record_words = (omega arith, c.loop-i.invariant.0.below);
}

pub goals-loop-i-smaller : goal.goals-loop-i-smaller
goals-loop-i-smaller t c = (chain_next c.requires.declares.0.formed c.loop-i.invariant.0 c.loop-i-test.true c.word-i.ensures.0).falls

pub goals-loop-i-preserved : goal.goals-loop-i-preserved
goals-loop-i-preserved t c = let l = c.loop-i.invariant in
    let o = chain_next c.requires.declares.0.formed l.0 c.loop-i-test.true c.word-i.ensures.0 in
    (o.stands, omega (arith, o.falls, l.1), goals_yes _ _ _ c.requires.declares.0.formed l.0 c.loop-i-test.true c.goal.ensures c.if-not-goal.false c.word-i.ensures.0 ∙ l.2)

pub goals-returns : goal.goals-returns
goals-returns t c = goals_end _ _ c.loop-i-test.false ∙ c.loop-i.invariant.2

pub switch-word-requires : goal.switch-word-requires
switch-word-requires t c = record {
  formed = c.requires.declares.0.formed;
  k_lt_record_words = (omega arith, c.requires.switch.1);
}

pub switch-returns-then-v-eq0 : goal.switch-returns-then-v-eq0
switch-returns-then-v-eq0 t c = switch_none c.requires.declares.0 c.requires.declares.1 _ c.requires.switch.0 c.word.ensures.0 c.variable-v.ensures c.if-v-eq0.true

pub switch-word-t-requires : goal.switch-word-t-requires
switch-word-t-requires t c = record {
  formed = c.requires.declares.0.formed;
  k_lt_record_words = (omega arith, (stands_same c.variable-v.ensures (variable_stands c.requires.declares.0.formed c.requires.declares.1 _)).below);
}

pub switch-returns-then-t-eq0 : goal.switch-returns-then-t-eq0
switch-returns-then-t-eq0 t c = switch_number c.requires.declares.0 c.requires.declares.1 _ c.requires.switch.0 c.word.ensures.0 c.variable-v.ensures c.if-v-eq0.false c.word-t.ensures.0 c.if-t-eq0.true

pub switch-word-requires-2 : goal.switch-word-requires-2
switch-word-requires-2 t c = record {
  formed = c.requires.declares.0.formed;
  k_lt_record_words = (omega arith, c.requires.switch.1);
}

pub switch-arms-requires : goal.switch-arms-requires
switch-arms-requires t c = let o = to_arms c.requires.declares.0.formed c.requires.switch.0 c.word-2.ensures.0 in
    (omega (arith, o.falls, c.decreases), (c.requires.declares, (o.stands, stands_same c.functor.ensures (functor_stands c.requires.declares.0 _ _))))

pub switch-returns : goal.switch-returns
switch-returns t c = switch_arms_law c.requires.declares.0 c.requires.declares.1 _ c.requires.switch.0 c.word.ensures.0 c.variable-v.ensures c.if-v-eq0.false c.word-t.ensures.0 c.if-t-eq0.false c.functor.ensures c.word-2.ensures.0 c.arms.ensures
