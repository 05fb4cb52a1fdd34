-- The walk over goals: one law of Walking for each way through it. The records ahead fall.
use mathlib.Core.Path.{refl}
use Rattle.std.proofs.Common.{arith}
use Rattle.chains.specs.Shapes.{switch_here, if_here, try_here, to_arms, to_then, to_else, to_condition, to_try_then, to_try_else, arm_goals_law, arm_next}
use Rattle.insertion.proofs.AlongLaws.{along_first, along_last, along_onward, along_rest}
use Rattle.insertion.proofs.Walking.{along_turn, goal_moved, part_laid, switch_laid, if_laid, try_laid, no_arms_law, arms_laid}
use Rattle.insertion.proofs.walk.+arms_attempt_branches_chain_goals_part_switch.Goals.{goals-in-Switch, goals-in-If, goals-in_default}
use Rattle.insertion.proofs.walk.+arms_attempt_branches_chain_goals_part_switch.Goals as goal

pub arms-returns-then-i-eq0 : goal.arms-returns-then-i-eq0
arms-returns-then-i-eq0 t c =
    no_arms_law _ _ _ _ _ _ c.if-i-eq0.true

pub arms-word-inside-requires : goal.arms-word-inside-requires
arms-word-inside-requires t c = record {
  formed = c.requires.formed;
  k_lt_record_words = (omega arith, c.requires.stands.below);
}

pub arms-part-requires : goal.arms-part-requires
arms-part-requires t c =
    let o = arm_goals_law c.requires.formed c.if-i-eq0.false c.requires.stands c.word-inside.ensures.0 in
    (omega (arith, o.falls, c.decreases), (c.requires.formed, o.stands))

pub arms-word-next-requires : goal.arms-word-next-requires
arms-word-next-requires t c = record {
  formed = c.requires.formed;
  k_lt_record_words = (omega arith, c.requires.stands.below);
}

pub arms-arms-requires : goal.arms-arms-requires
arms-arms-requires t c =
    let o = arm_next c.requires.formed c.if-i-eq0.false c.requires.stands c.word-next.ensures.0 in
    (omega (arith, o.falls, c.decreases), (c.requires.formed, o.stands))

pub arms-store_arm-requires : goal.arms-store_arm-requires
arms-store_arm-requires t c = record {
  formed = c.requires.formed;
  i_bound = c.requires.stands.below;
}

pub arms-returns : goal.arms-returns
arms-returns t c =
    arms_laid _ _ _ _ c.requires.formed c.requires.stands c.if-i-eq0.false c.behind-start.ensures c.word-inside.ensures.0 c.part.ensures c.word-next.ensures.0 c.arms.ensures c.store_arm.ensures

pub attempt-word-condition-requires : goal.attempt-word-condition-requires
attempt-word-condition-requires t c = record {
  formed = c.requires.formed;
  k_lt_record_words = (omega arith, (try_here c.requires.formed refl c.requires.fact).below);
}

pub attempt-word-then-requires : goal.attempt-word-then-requires
attempt-word-then-requires t c = record {
  formed = c.requires.formed;
  k_lt_record_words = (omega arith, (try_here c.requires.formed refl c.requires.fact).below);
}

pub attempt-chain-requires : goal.attempt-chain-requires
attempt-chain-requires t c =
    let o = to_condition c.requires.formed c.requires.fact c.word-condition.ensures.0 in
    (omega (arith, o.falls, c.decreases), (c.requires.formed, o.stands))

pub attempt-chain-requires-2 : goal.attempt-chain-requires-2
attempt-chain-requires-2 t c =
    let o = to_try_then c.requires.formed c.requires.fact c.word-then.ensures.0 in
    (omega (arith, o.falls, c.decreases), (c.requires.formed, o.stands))

pub attempt-word-other-requires : goal.attempt-word-other-requires
attempt-word-other-requires t c = record {
  formed = c.requires.formed;
  k_lt_record_words = (omega arith, (try_here c.requires.formed refl c.requires.fact).below);
}

pub attempt-part-requires : goal.attempt-part-requires
attempt-part-requires t c =
    let o = to_try_else c.requires.formed c.requires.fact c.word-other.ensures.0 in
    (omega (arith, o.falls, c.decreases), (c.requires.formed, o.stands))

pub attempt-store_try-requires : goal.attempt-store_try-requires
attempt-store_try-requires t c = record {
  formed = c.requires.formed;
  i_bound = (try_here c.requires.formed refl c.requires.fact).below;
}

pub attempt-returns : goal.attempt-returns
attempt-returns t c =
    let o = c.start_part.ensures in
    try_laid _ _ _ _ c.requires.formed c.requires.fact c.behind-start.ensures c.word-condition.ensures.0 c.word-then.ensures.0 c.either.ensures
    c.past.ensures o.laid (rw o.point_is at c.chain.ensures) c.chain-2.ensures c.word-other.ensures.0 c.part.ensures c.store_try.ensures

pub branches-word-yes-requires : goal.branches-word-yes-requires
branches-word-yes-requires t c = record {
  formed = c.requires.formed;
  k_lt_record_words = (omega arith, (if_here c.requires.formed refl c.requires.fact).below);
}

pub branches-part-requires : goal.branches-part-requires
branches-part-requires t c =
    let o = to_then c.requires.formed c.requires.fact c.word-yes.ensures.0 in
    (omega (arith, o.falls, c.decreases), (c.requires.formed, o.stands))

pub branches-word-no-requires : goal.branches-word-no-requires
branches-word-no-requires t c = record {
  formed = c.requires.formed;
  k_lt_record_words = (omega arith, (if_here c.requires.formed refl c.requires.fact).below);
}

pub branches-part-requires-2 : goal.branches-part-requires-2
branches-part-requires-2 t c =
    let o = to_else c.requires.formed c.requires.fact c.word-no.ensures.0 in
    (omega (arith, o.falls, c.decreases), (c.requires.formed, o.stands))

pub branches-store_if-requires : goal.branches-store_if-requires
branches-store_if-requires t c = record {
  formed = c.requires.formed;
  i_bound = (if_here c.requires.formed refl c.requires.fact).below;
}

pub branches-returns : goal.branches-returns
branches-returns t c =
    if_laid _ _ _ _ c.requires.formed c.requires.fact c.behind-start.ensures c.word-yes.ensures.0 c.past.ensures c.part.ensures c.word-no.ensures.0 c.part-2.ensures c.store_if.ensures

pub chain-steps-i-requires : goal.chain-steps-i-requires
chain-steps-i-requires t c =
    c.requires

pub chain-goals-requires : goal.chain-goals-requires
chain-goals-requires t c =
    let e = c.steps-i.ensures in
    (omega (arith, e.lays_along.near, c.decreases), (c.requires.formed, (e.lays_along.stands, e.has_parts)))

pub chain-returns-then-i-ne0 : goal.chain-returns-then-i-ne0
chain-returns-then-i-ne0 t c =
    along_rest c.steps-i.ensures.lays_along c.goals.ensures

pub chain-returns-else-i-ne0 : goal.chain-returns-else-i-ne0
chain-returns-else-i-ne0 t c =
    along_last c.steps-i.ensures.lays_along c.if-i-ne0.false

pub goals-loop-i-init : goal.goals-loop-i-init
goals-loop-i-init t c =
    (along_first _ _ _ _ _ _ _ c.requires.stands.0, c.requires.stands.1)

pub goals-steps-i-requires-clause-stands : goal.goals-steps-i-requires-clause-stands
goals-steps-i-requires-clause-stands t c =
    (along_onward c.loop-i.invariant.0 c.requires.formed c.loop-i-test.true c.word-next.ensures.0).stands

pub goals-loop-i-smaller : goal.goals-loop-i-smaller
goals-loop-i-smaller t c =
    omega
    (arith, c.steps-i.ensures.lays_along.near, (along_onward c.loop-i.invariant.0 c.requires.formed c.loop-i-test.true c.word-next.ensures.0).falls)

pub goals-loop-i-preserved : goal.goals-loop-i-preserved
goals-loop-i-preserved t c = (
  along_turn c.loop-i.invariant.0 c.requires.formed c.loop-i-test.true c.word-next.ensures.0 c.steps-i.ensures.lays_along
      (elim c.match-goal.branch [
        | goals-in-Switch w ↦ goal_moved _ _ w.out-is w.at-is w.switch.ensures
        | goals-in-If w ↦ goal_moved _ _ w.out-is w.at-is w.branches.ensures
        | goals-in_default w ↦ goal_moved _ _ w.out-is w.at-is w.attempt.ensures
      ]),
  c.steps-i.ensures.has_parts,
)

pub goals-returns : goal.goals-returns
goals-returns t c =
    along_last c.loop-i.invariant.0 c.loop-i-test.false

pub part-steps-i-requires : goal.part-steps-i-requires
part-steps-i-requires t c =
    c.requires

pub part-goals-requires : goal.part-goals-requires
part-goals-requires t c =
    let e = c.steps-i.ensures in
    (omega (arith, e.lays_along.near, c.decreases), (c.requires.formed, (e.lays_along.stands, e.has_parts)))

pub part-returns-then-i-ne0 : goal.part-returns-then-i-ne0
part-returns-then-i-ne0 t c =
    let o = c.start_part.ensures in
    part_laid _ _ _ _ c.requires.formed c.requires.stands o.laid (rw o.point_is at (along_rest c.steps-i.ensures.lays_along c.goals.ensures))

pub part-returns-else-i-ne0 : goal.part-returns-else-i-ne0
part-returns-else-i-ne0 t c =
    let o = c.start_part.ensures in
    part_laid _ _ _ _ c.requires.formed c.requires.stands o.laid (rw o.point_is at (along_last c.steps-i.ensures.lays_along c.if-i-ne0.false))

pub switch-word-cases-requires : goal.switch-word-cases-requires
switch-word-cases-requires t c = record {
  formed = c.requires.formed;
  k_lt_record_words = (omega arith, (switch_here c.requires.formed refl c.requires.switch).below);
}

pub switch-arms-requires : goal.switch-arms-requires
switch-arms-requires t c =
    let o = to_arms c.requires.formed c.requires.switch c.word-cases.ensures.0 in
    (omega (arith, o.falls, c.decreases), (c.requires.formed, o.stands))

pub switch-store_switch-requires : goal.switch-store_switch-requires
switch-store_switch-requires t c = record {
  formed = c.requires.formed;
  i_bound = (switch_here c.requires.formed refl c.requires.switch).below;
}

pub switch-returns : goal.switch-returns
switch-returns t c =
    switch_laid _ _ _ _ c.requires.formed c.requires.switch c.behind-start.ensures c.word-cases.ensures.0 c.past.ensures c.arms.ensures c.store_switch.ensures
