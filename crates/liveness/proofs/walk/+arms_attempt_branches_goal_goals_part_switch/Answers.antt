-- The walk over goals: one law of Walking for each way through it. The records ahead fall.
use mathlib.Core.Path.{refl, sym, ap, ◌∙◌}
use Rattle.std.proofs.Common.{arith, rules}
use Rattle.chains.specs.Formed.{ahead}
use Rattle.chains.specs.Is.{chain_next}
use Rattle.chains.specs.Shapes.{arm_here}
use Rattle.liveness.proofs.Walking.{goals_last, to_next, goals_more, step_done, to_arms, switch_done, to_then, to_else, if_done, to_condition, to_try_then, to_try_else, try_done, arms_last, arms_more, part_stands, part_done, switch_there, if_there, try_there}
use Rattle.liveness.proofs.walk.+arms_attempt_branches_goal_goals_part_switch.Goals as goal

pub arms-returns-then-i-eq0 : goal.arms-returns-then-i-eq0
arms-returns-then-i-eq0 t c = search (arms_last, rules)

pub arms-arms-requires : goal.arms-arms-requires
arms-arms-requires t c =
    let o = chain_next c.requires.formed c.requires.stands c.if-i-eq0.false c.word-next.ensures.0 in
    (omega (arith, o.falls, c.decreases), (c.requires.formed, (c.requires.accessed, o.stands)))

pub arms-part-requires : goal.arms-part-requires
arms-part-requires t c =
    let o = (arm_here c.requires.formed c.if-i-eq0.false c.requires.stands).to_goals in
    (omega (arith, o.falls, c.decreases), (c.requires.formed, (c.requires.accessed, (omega arith, (c.requires.stands.below, o.stands)))))

pub arms-returns : goal.arms-returns
arms-returns t c =
    arms_more _ _ _ c.requires.formed c.requires.stands c.if-i-eq0.false refl c.word-next.ensures.0 c.arms.ensures
    refl (record { live_is = refl; place_is = refl; classes_is = refl; wants_is = refl }) c.part.ensures refl
    (c.gives_at-bound.ensures ∙ c.requires.accessed.arm_gives _ c.requires.stands c.if-i-eq0.false) c.difference.ensures
    c.union-carried.ensures (record { live_is = refl; place_is = refl; classes_is = refl; wants_is = refl })

pub attempt-part-requires : goal.attempt-part-requires
attempt-part-requires t c =
    let o = to_try_else _ _ c.requires.formed c.requires.kind_word_value in
    (omega (arith, o.falls, c.decreases), (c.requires.formed, (c.requires.accessed, (omega arith, (try_there _ _ c.requires.formed c.requires.kind_word_value, o.stands)))))

pub attempt-part-requires-2 : goal.attempt-part-requires-2
attempt-part-requires-2 t c =
    let o = to_try_then _ _ c.requires.formed c.requires.kind_word_value in
    (omega (arith, o.falls, c.decreases), (c.requires.formed, (c.requires.accessed, (omega arith, (try_there _ _ c.requires.formed c.requires.kind_word_value, o.stands)))))

pub attempt-part-requires-3 : goal.attempt-part-requires-3
attempt-part-requires-3 t c =
    let o = to_condition _ _ c.requires.formed c.requires.kind_word_value in
    (omega (arith, o.falls, c.decreases), (c.requires.formed, (c.requires.accessed, (omega arith, (try_there _ _ c.requires.formed c.requires.kind_word_value, o.stands)))))

pub attempt-returns : goal.attempt-returns
attempt-returns t c =
    try_done _ _ _ c.requires.formed c.requires.kind_word_value refl c.part.ensures refl
    (record { live_is = refl; place_is = refl; classes_is = refl; wants_is = refl }) c.part-2.ensures c.part-3.ensures refl
    c.union.ensures c.put_point.ensures

pub branches-part-requires : goal.branches-part-requires
branches-part-requires t c =
    let o = to_else _ _ c.requires.formed c.requires.kind_word_value in
    (omega (arith, o.falls, c.decreases), (c.requires.formed, (c.requires.accessed, (omega arith, (if_there _ _ c.requires.formed c.requires.kind_word_value, o.stands)))))

pub branches-part-requires-2 : goal.branches-part-requires-2
branches-part-requires-2 t c =
    let o = to_then _ _ c.requires.formed c.requires.kind_word_value in
    (omega (arith, o.falls, c.decreases), (c.requires.formed, (c.requires.accessed, (omega arith, (if_there _ _ c.requires.formed c.requires.kind_word_value, o.stands)))))

pub branches-word-requires : goal.branches-word-requires
branches-word-requires t c = search (if_there, rules)

pub branches-word-requires-2 : goal.branches-word-requires-2
branches-word-requires-2 t c = record {
  formed = c.requires.formed;
  k_lt_record_words = (omega arith, if_there _ _ c.requires.formed c.requires.kind_word_value);
}

pub branches-returns : goal.branches-returns
branches-returns t c =
    if_done _ _ _ c.requires.formed c.requires.kind_word_value refl c.part.ensures refl
    (record { live_is = refl; place_is = refl; classes_is = refl; wants_is = refl }) c.part-2.ensures refl c.word.ensures.0 c.of-y.ensures
    c.word-2.ensures.0 c.of-z.ensures c.union.ensures c.union-2.ensures c.union-3.ensures
    c.put_point.ensures

pub goal-returns-in_default : goal.goal-returns-in_default
goal-returns-in_default t c =
    step_done _ _ _ c.requires.formed c.requires.stands.0 c.requires.stands.1 (search rules) (search rules) (search rules) _ c.requires.accessed c.step.ensures

pub goals-returns-then-i-eq0 : goal.goals-returns-then-i-eq0
goals-returns-then-i-eq0 t c = goals_last _ _ _ _ _ c.if-i-eq0.true

pub goals-part-requires : goal.goals-part-requires
goals-part-requires t c =
    let o = to_next _ _ c.requires.formed c.requires.stands c.if-i-eq0.false in
    (omega (arith, o.falls, c.decreases), (c.requires.formed, (c.requires.accessed, (omega arith, (c.requires.stands.below, o.stands)))))

pub goals-returns : goal.goals-returns
goals-returns t c = search (goals_more, rules)

pub part-word-start-requires : goal.part-word-start-requires
part-word-start-requires t c = record {
  formed = c.requires.formed;
  k_lt_record_words = (c.requires.k_lt_record_words.0, c.requires.k_lt_record_words.1.0);
}

pub part-returns-then-start-eq0 : goal.part-returns-then-start-eq0
part-returns-then-start-eq0 t c = goals_last _ _ _ _ _ (sym c.word-start.ensures.0 ∙ c.if-start-eq0.true)

pub part-goals-requires : goal.part-goals-requires
part-goals-requires t c =
    let e = c.word-start.ensures.0 in
    (omega (arith, ap (ahead c.args.file.now.now) e, c.decreases), (c.requires.formed, (c.requires.accessed, part_stands _ _ _ e c.requires.k_lt_record_words.1.1)))

pub part-returns : goal.part-returns
part-returns t c = search (part_done, rules)

pub switch-word-first-requires : goal.switch-word-first-requires
switch-word-first-requires t c = search (switch_there, rules)

pub switch-arms-requires : goal.switch-arms-requires
switch-arms-requires t c =
    let o = to_arms _ _ c.requires.formed c.requires.kind_word_value c.word-first.ensures.0 in
    (omega (arith, o.falls, c.decreases), (c.requires.formed, (c.requires.accessed, o.stands)))

pub switch-word-requires : goal.switch-word-requires
switch-word-requires t c = search (switch_there, rules)

pub switch-returns : goal.switch-returns
switch-returns t c =
    switch_done _ _ _ c.requires.formed c.requires.kind_word_value refl c.word-first.ensures.0 c.arms.ensures
    c.word.ensures.0 c.of-x.ensures refl c.union.ensures c.put_point.ensures
