use Rattle.plans.specs.Ways.{goal_arm, goal_other}
use Rattle.plans.proofs.joining.goal_of.Goals as goal

pub returns-then-word-eq-ARM : goal.returns-then-word-eq-ARM
returns-then-word-eq-ARM c =
    let a = c.args in
    goal_arm a.file.now a.i a.plan.now c.word.ensures.0 c.if-word-eq-ARM.true c.word-then-word-eq-ARM.ensures.0 c.onto.ensures

pub returns : goal.returns
returns c =
    let a = c.args in
    goal_other a.file.now a.i a.plan.now c.word.ensures.0 c.if-word-eq-ARM.false c.word-2.ensures.0 c.onto-2.ensures
