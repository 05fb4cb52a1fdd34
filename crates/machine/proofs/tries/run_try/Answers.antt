-- The condition has come so far, and what is left of it makes the whole.
use mathlib.Core.List.{[]}
use Rattle.std.proofs.Common.{arith, rules}
use mathlib.Core.Path.{◌∙◌}
use Rattle.frames.specs.Strays.{whole, in_length, past_length}
use Rattle.machine.proofs.TriesLaws.{step_is, along_start, along_leaves, along_spent, along_past, along_on, along_lacks, along_fails, count_low, tried_as, goal_as}
use Rattle.machine.proofs.tries.run_try.Goals as goal

pub log_length-requires : goal.log_length-requires
log_length-requires c = search rules

pub save_frame-requires : goal.save_frame-requires
save_frame-requires c = (c.requires.goal_bound.3.fits, c.requires.formed.2)

pub word_in-requires : goal.word_in-requires
word_in-requires c = (omega arith, (whole c.requires.formed.0 _ c.requires.goal_bound.0).1)

pub onward-here-requires : goal.onward-here-requires
onward-here-requires c = search rules

pub overflow_sub-left : goal.overflow_sub-left
overflow_sub-left c = omega (arith, c.requires.formed.3)

pub loop-here-init : goal.loop-here-init
loop-here-init c = λ images callees. along_start _ _ _ _ _ _ _ _ _ _ _ _ _ _ c.onward-here.ensures c.requires.formed.3 c.requires.goal_bound.1 c.requires.goal_bound.2 c.requires.goal_bound.3 c.log_length.ensures c.requires.formed.2 c.save_frame.ensures.own_len c.save_frame.ensures.own_after c.word_in.ensures.0

pub free_log-freed-requires : goal.free_log-freed-requires
free_log-freed-requires c = search rules

pub then_goal-requires : goal.then_goal-requires
then_goal-requires c = let w = whole c.requires.formed.0 _ c.requires.goal_bound.0 in (w.0, w.1)

pub shape_of-cells-then-here-eq0 : goal.shape_of-cells-then-here-eq0
shape_of-cells-then-here-eq0 c = omega (arith, c.free_log-freed.auto, (c.loop-here.invariant [] []).cells)

pub shape_of-regions-then-here-eq0 : goal.shape_of-regions-then-here-eq0
shape_of-regions-then-here-eq0 c = omega (arith, c.free_log-freed.auto, (c.loop-here.invariant [] []).regions)

pub shape_of-frames-then-here-eq0 : goal.shape_of-frames-then-here-eq0
shape_of-frames-then-here-eq0 c = (c.loop-here.invariant [] []).frames

pub returns-then-here-eq0 : goal.returns-then-here-eq0
returns-then-here-eq0 c = λ images callees. tried_as _ _ _ _ _ c.onward-here.ensures _ _ _ _ _ _ _ _ _ (along_leaves _ _ _ _ _ _ _ _ _ _ (c.loop-here.invariant images callees) c.if-here-eq0.true _ _ _ _ c.free_log-freed.ensures (goal_as _ _ _ _ _ _ c.then_goal.ensures))

pub shape_of-cells-then-left-eq0 : goal.shape_of-cells-then-left-eq0
shape_of-cells-then-left-eq0 c = (c.loop-here.invariant [] []).cells

pub shape_of-regions-then-left-eq0 : goal.shape_of-regions-then-left-eq0
shape_of-regions-then-left-eq0 c = (c.loop-here.invariant [] []).regions

pub shape_of-frames-then-left-eq0 : goal.shape_of-frames-then-left-eq0
shape_of-frames-then-left-eq0 c = (c.loop-here.invariant [] []).frames

pub returns-then-left-eq0 : goal.returns-then-left-eq0
returns-then-left-eq0 c = λ images callees. tried_as _ _ _ _ _ c.onward-here.ensures _ _ _ _ _ _ _ _ _ (along_spent _ _ _ _ _ _ _ _ _ _ (c.loop-here.invariant images callees) c.if-here-eq0.false c.if-left-eq0.true)

pub overflow_sub-left-then-file-here : goal.overflow_sub-left-then-file-here
overflow_sub-left-then-file-here c = omega (arith, c.if-left-eq0.false)

pub loop-here-smaller-then-file-here : goal.loop-here-smaller-then-file-here
loop-here-smaller-then-file-here c = omega (arith, c.if-left-eq0.false)

pub loop-here-preserved-then-file-here : goal.loop-here-preserved-then-file-here
loop-here-preserved-then-file-here c = λ images callees. along_past _ _ _ _ _ _ _ _ _ _ (c.loop-here.invariant images callees) c.if-here-eq0.false (omega (arith, c.if-left-eq0.false)) c.requires.formed.0 (past_length c.requires.formed.0 _ c.if-file-here.true)

pub step_in-stepped-requires : goal.step_in-stepped-requires
step_in-stepped-requires c = record {
  formed = (c.requires.formed.0, c.requires.formed.1, count_low _ _ _ _ _ _ _ _ _ _ (c.loop-here.invariant [] []) (omega (arith, c.ranges)));
  goal_bound = (in_length c.requires.formed.0 _ c.if-file-here.false, c.if-here-eq0.false, (c.loop-here.invariant [] []).placed);
}

pub onward-here-requires-in-Ok-On : goal.onward-here-requires-in-Ok-On
onward-here-requires-in-Ok-On c = search rules

pub overflow_sub-left-in-Ok-On : goal.overflow_sub-left-in-Ok-On
overflow_sub-left-in-Ok-On c = omega (arith, c.if-left-eq0.false)

pub loop-here-smaller : goal.loop-here-smaller
loop-here-smaller c = omega (arith, c.if-left-eq0.false)

pub loop-here-preserved : goal.loop-here-preserved
loop-here-preserved c = λ images callees. along_on _ _ _ _ _ _ _ _ _ _ (c.loop-here.invariant images callees) c.if-here-eq0.false (omega (arith, c.if-left-eq0.false)) (c.step_in-stepped.ensures images callees) _ _ _ _ (step_is _ _ _ c.in-Ok-On.is (rw c.in-Ok-On.is at c.in-Ok-On.field-0-is)) c.onward-here-in-Ok-On.ensures c.step_in-stepped.auto.cells c.step_in-stepped.auto.regions c.step_in-stepped.auto.frames

pub take_back_all-back-requires : goal.take_back_all-back-requires
take_back_all-back-requires c = (omega (arith, (c.loop-here.invariant [] []).placed.fits, c.step_in-stepped.auto.frames), c.requires.formed.2)

pub else_goal-requires : goal.else_goal-requires
else_goal-requires c = let w = whole c.requires.formed.0 _ c.requires.goal_bound.0 in (w.0, w.1)

pub overflow_sub-result : goal.overflow_sub-result
overflow_sub-result c = omega (arith, c.if-left-eq0.false)

pub shape_of-cells-in-Ok-Fails : goal.shape_of-cells-in-Ok-Fails
shape_of-cells-in-Ok-Fails c = omega (arith, c.take_back_all-back.auto, c.step_in-stepped.auto.cells, (c.loop-here.invariant [] []).cells)

pub shape_of-regions-in-Ok-Fails : goal.shape_of-regions-in-Ok-Fails
shape_of-regions-in-Ok-Fails c = omega (arith, c.take_back_all-back.auto, c.step_in-stepped.auto.regions, (c.loop-here.invariant [] []).regions)

pub shape_of-frames-in-Ok-Fails : goal.shape_of-frames-in-Ok-Fails
shape_of-frames-in-Ok-Fails c = omega (arith, c.take_back_all-back.auto, c.step_in-stepped.auto.frames, (c.loop-here.invariant [] []).frames)

pub returns-in-Ok-Fails : goal.returns-in-Ok-Fails
returns-in-Ok-Fails c = λ images callees. tried_as _ _ _ _ _ c.onward-here.ensures _ _ _ _ _ _ _ _ _ (along_fails _ _ _ _ _ _ _ _ _ _ (c.loop-here.invariant images callees) c.if-here-eq0.false (omega (arith, c.if-left-eq0.false)) (c.step_in-stepped.ensures images callees) (step_is _ _ _ c.in-Ok-Fails.is (rw c.in-Ok-Fails.is at c.in-Ok-Fails.field-0-is)) _ _ _ _ _ c.take_back_all-back.ensures.by_index c.take_back_all-back.ensures.frames_after (goal_as _ _ _ _ _ _ c.else_goal.ensures))

pub shape_of-cells-in-Err : goal.shape_of-cells-in-Err
shape_of-cells-in-Err c = c.step_in-stepped.auto.cells ∙ (c.loop-here.invariant [] []).cells

pub shape_of-regions-in-Err : goal.shape_of-regions-in-Err
shape_of-regions-in-Err c = c.step_in-stepped.auto.regions ∙ (c.loop-here.invariant [] []).regions

pub shape_of-frames-in-Err : goal.shape_of-frames-in-Err
shape_of-frames-in-Err c = c.step_in-stepped.auto.frames ∙ (c.loop-here.invariant [] []).frames

pub returns-in-Err : goal.returns-in-Err
returns-in-Err c = λ images callees. tried_as _ _ _ _ _ c.onward-here.ensures _ _ _ _ _ _ _ _ _ (along_lacks _ _ _ _ _ _ _ _ _ _ (c.loop-here.invariant images callees) c.if-here-eq0.false (omega (arith, c.if-left-eq0.false)) (c.step_in-stepped.ensures images callees) _ c.in-Err.is)
