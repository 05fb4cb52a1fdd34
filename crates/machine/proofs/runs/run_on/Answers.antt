-- What is done so far and the steps still to come make the whole.
use mathlib.Core.List.{[]}
use Rattle.std.proofs.Common.{rules, arith}
use mathlib.Core.Path.{refl, sym, ◌∙◌}
use Rattle.frames.specs.Strays.{whole, in_length, past_length}
use Rattle.machine.specs.Calls.{successor_as}
use Rattle.machine.proofs.RunsLaws.{placed_as, first, first_as, arrives, past_on, changed_on, went_on_law, run_finished, run_spent, change_stopped, went_stopped, told, tried_on, tried_stopped}
use Rattle.machine.proofs.StepsLaws.{went_tries, stops_tries}
use Rattle.machine.proofs.TriesLaws.{step_is, tried_apart}
use Rattle.machine.specs.Words.{onward_placed}
use Rattle.machine.specs.Heaps.{changed, unchanged}
use Rattle.machine.proofs.runs.run_on.Goals as goal
use Rattle.machine.proofs.runs.run_on.Goals.{then-file-lt-MAX_BYTES, else-file-lt-MAX_BYTES}

pub loop-heap-init : goal.loop-heap-init
loop-heap-init c = first _ _ _ _ _ _ _ _ c.args.callees.now _ c.first_state-state.ensures c.requires.frame_words_in_bounds

pub settle-here-requires : goal.settle-here-requires
settle-here-requires c = record {
  formed = (c.requires.formed.0, c.loop-heap.invariant.placed);
  narrow = c.requires.formed.1;
}

pub overflow_sub-steps : goal.overflow_sub-steps
overflow_sub-steps c = omega (arith, c.loop-heap.invariant.most)

pub shape_of-cells-then-i-eq0 : goal.shape_of-cells-then-i-eq0
shape_of-cells-then-i-eq0 c = c.loop-heap.invariant.cells

pub shape_of-regions-then-i-eq0 : goal.shape_of-regions-then-i-eq0
shape_of-regions-then-i-eq0 c = c.loop-heap.invariant.regions

pub shape_of-frames-then-i-eq0 : goal.shape_of-frames-then-i-eq0
shape_of-frames-then-i-eq0 c = c.settle-here.auto.frames ∙ c.loop-heap.invariant.frames

pub shape_of-prints-then-i-eq0 : goal.shape_of-prints-then-i-eq0
shape_of-prints-then-i-eq0 c = c.loop-heap.invariant.prints

pub returns-then-i-eq0 : goal.returns-then-i-eq0
returns-then-i-eq0 c =
    first_as _ _ _ _ _ _ _ _ _ _ _ _ _ _ _ _ c.empty-heap.ensures c.first_state-state.ensures
    (run_finished _ _ _ _ _ _ _ _ _ _ _ _ _ _ _ (arrives _ _ _ _ _ _ _ _ _ _ _ _ _ _ _ _ _ c.loop-heap.invariant c.settle-here.ensures.result_after c.settle-here.ensures.frame_placed c.settle-here.auto.frames) _ c.if-i-eq0.true c.ended.ensures)

pub overflow_sub-steps-then-left-eq0 : goal.overflow_sub-steps-then-left-eq0
overflow_sub-steps-then-left-eq0 c = omega (arith, c.loop-heap.invariant.most)

pub shape_of-cells-then-left-eq0 : goal.shape_of-cells-then-left-eq0
shape_of-cells-then-left-eq0 c = c.loop-heap.invariant.cells

pub shape_of-regions-then-left-eq0 : goal.shape_of-regions-then-left-eq0
shape_of-regions-then-left-eq0 c = c.loop-heap.invariant.regions

pub shape_of-frames-then-left-eq0 : goal.shape_of-frames-then-left-eq0
shape_of-frames-then-left-eq0 c = c.settle-here.auto.frames ∙ c.loop-heap.invariant.frames

pub shape_of-prints-then-left-eq0 : goal.shape_of-prints-then-left-eq0
shape_of-prints-then-left-eq0 c = c.loop-heap.invariant.prints

pub returns-then-left-eq0 : goal.returns-then-left-eq0
returns-then-left-eq0 c =
    first_as _ _ _ _ _ _ _ _ _ _ _ _ _ _ _ _ c.empty-heap.ensures c.first_state-state.ensures
    (run_spent _ _ _ _ _ _ _ _ _ _ _ _ _ _ _ (arrives _ _ _ _ _ _ _ _ _ _ _ _ _ _ _ _ _ c.loop-heap.invariant c.settle-here.ensures.result_after c.settle-here.ensures.frame_placed c.settle-here.auto.frames) _ c.if-i-eq0.false c.if-left-eq0.true c.ended-then-left-eq0.ensures)

pub overflow_sub-left : goal.overflow_sub-left
overflow_sub-left c = omega (arith, c.if-left-eq0.false)

pub loop-heap-smaller-then-file-i : goal.loop-heap-smaller-then-file-i
loop-heap-smaller-then-file-i c = omega (arith, c.if-left-eq0.false)

pub loop-heap-preserved-then-file-i : goal.loop-heap-preserved-then-file-i
loop-heap-preserved-then-file-i c =
    past_on _ _ _ _ _ _ _ _ _ _ _ _ _ _ _
    (arrives _ _ _ _ _ _ _ _ _ _ _ _ _ _ _ _ _ c.loop-heap.invariant c.settle-here.ensures.result_after c.settle-here.ensures.frame_placed c.settle-here.auto.frames)
    c.requires.formed.0 c.if-i-eq0.false (omega (arith, c.if-left-eq0.false)) (past_length c.requires.formed.0 _ c.if-file-i.true)

pub word_in-requires : goal.word_in-requires
word_in-requires c = let w = whole c.requires.formed.0 _ (in_length c.requires.formed.0 _ c.if-file-i.false) in search rules

pub change_heap-stepped-requires : goal.change_heap-stepped-requires
change_heap-stepped-requires c = record {
  formed = (c.requires.formed.0, c.requires.formed.2);
  goal_bound = (in_length c.requires.formed.0 _ c.if-file-i.false, c.settle-here.ensures.frame_placed);
  changes = changed _ _ _ c.word_in.ensures.0 c.changes_heap.ensures c.if-changes_heap.true;
}

pub successor-requires : goal.successor-requires
successor-requires c = let w = whole c.requires.formed.0 _ (in_length c.requires.formed.0 _ c.if-file-i.false) in search rules

pub overflow_sub-left-in-Ok : goal.overflow_sub-left-in-Ok
overflow_sub-left-in-Ok c = omega (arith, c.if-left-eq0.false)

pub loop-heap-smaller-in-Ok : goal.loop-heap-smaller-in-Ok
loop-heap-smaller-in-Ok c = omega (arith, c.if-left-eq0.false)

pub loop-heap-preserved-in-Ok : goal.loop-heap-preserved-in-Ok
loop-heap-preserved-in-Ok c =
    changed_on _ _ _ _ _ _ _ _ _ _ _ _ _ _ _
    (arrives _ _ _ _ _ _ _ _ _ _ _ _ _ _ _ _ _ c.loop-heap.invariant c.settle-here.ensures.result_after c.settle-here.ensures.frame_placed c.settle-here.auto.frames)
    _ _ _ _ _ _ _ c.if-i-eq0.false (omega (arith, c.if-left-eq0.false)) (c.change_heap-stepped.ensures _ _) c.in-Ok.is
    (successor_as _ _ _ _ _ c.successor.ensures) c.onward-state.ensures c.change_heap-stepped.auto.cells
    c.change_heap-stepped.auto.regions c.change_heap-stepped.auto.frames

pub overflow_sub-steps-in-Err : goal.overflow_sub-steps-in-Err
overflow_sub-steps-in-Err c = omega (arith, c.loop-heap.invariant.most)

pub shape_of-cells-in-Err : goal.shape_of-cells-in-Err
shape_of-cells-in-Err c = c.change_heap-stepped.auto.cells ∙ c.loop-heap.invariant.cells

pub shape_of-regions-in-Err : goal.shape_of-regions-in-Err
shape_of-regions-in-Err c = c.change_heap-stepped.auto.regions ∙ c.loop-heap.invariant.regions

pub shape_of-frames-in-Err : goal.shape_of-frames-in-Err
shape_of-frames-in-Err c =
    c.change_heap-stepped.auto.frames ∙ c.settle-here.auto.frames ∙ c.loop-heap.invariant.frames

pub shape_of-prints-in-Err : goal.shape_of-prints-in-Err
shape_of-prints-in-Err c = c.loop-heap.invariant.prints

pub returns-in-Err : goal.returns-in-Err
returns-in-Err c =
    first_as _ _ _ _ _ _ _ _ _ _ _ _ _ _ _ _ c.empty-heap.ensures c.first_state-state.ensures
    (change_stopped _ _ _ _ _ _ _ _ _ _ _ _ _ _ _ (arrives _ _ _ _ _ _ _ _ _ _ _ _ _ _ _ _ _ c.loop-heap.invariant c.settle-here.ensures.result_after c.settle-here.ensures.frame_placed c.settle-here.auto.frames) _ _ _ _ _ _ c.if-i-eq0.false (omega (arith, c.if-left-eq0.false)) (c.change_heap-stepped.ensures _ _) c.in-Err.is c.ended-in-Err.ensures)

pub go-went-requires : goal.go-went-requires
go-went-requires c = record {
  formed = (c.requires.formed.0, c.requires.formed.2);
  narrow = c.requires.formed.1;
  goal_bound = (in_length c.requires.formed.0 _ c.if-file-i.false, c.settle-here.ensures.frame_placed);
  changes = unchanged _ _ _ c.word_in.ensures.0 c.changes_heap.ensures c.if-changes_heap.false;
}

pub overflow_sub-left-in-Ok-Went : goal.overflow_sub-left-in-Ok-Went
overflow_sub-left-in-Ok-Went c = omega (arith, c.if-left-eq0.false)

pub loop-heap-smaller-in-Ok-Went : goal.loop-heap-smaller-in-Ok-Went
loop-heap-smaller-in-Ok-Went c = omega (arith, c.if-left-eq0.false)

pub loop-heap-preserved-in-Ok-Went : goal.loop-heap-preserved-in-Ok-Went
loop-heap-preserved-in-Ok-Went c =
    went_on_law _ _ _ _ _ _ _ _ _ _ _ _ _ _ _
    (arrives _ _ _ _ _ _ _ _ _ _ _ _ _ _ _ _ _ c.loop-heap.invariant c.settle-here.ensures.result_after c.settle-here.ensures.frame_placed c.settle-here.auto.frames)
    _ _ _ _ c.if-i-eq0.false (omega (arith, c.if-left-eq0.false)) (c.go-went.ensures.goes (λ z. went_tries _ (sym (step_is _ _ _ c.in-Ok-Went.is (rw c.in-Ok-Went.is at c.in-Ok-Went.field-0-is)) ∙ z))) (step_is _ _ _ c.in-Ok-Went.is (rw c.in-Ok-Went.is at c.in-Ok-Went.field-0-is))
    c.go-went.auto.frames c.go-went.auto.prints

pub overflow_sub-steps-in-Err-went : goal.overflow_sub-steps-in-Err-went
overflow_sub-steps-in-Err-went c = omega (arith, c.loop-heap.invariant.most)

pub shape_of-cells-in-Err-went : goal.shape_of-cells-in-Err-went
shape_of-cells-in-Err-went c = c.loop-heap.invariant.cells

pub shape_of-regions-in-Err-went : goal.shape_of-regions-in-Err-went
shape_of-regions-in-Err-went c = c.loop-heap.invariant.regions

pub shape_of-frames-in-Err-went : goal.shape_of-frames-in-Err-went
shape_of-frames-in-Err-went c =
    c.go-went.auto.frames ∙ c.settle-here.auto.frames ∙ c.loop-heap.invariant.frames

pub shape_of-prints-in-Err-went : goal.shape_of-prints-in-Err-went
shape_of-prints-in-Err-went c = c.go-went.auto.prints ∙ c.loop-heap.invariant.prints

pub returns-in-Err-went : goal.returns-in-Err-went
returns-in-Err-went c =
    first_as _ _ _ _ _ _ _ _ _ _ _ _ _ _ _ _ c.empty-heap.ensures c.first_state-state.ensures
    (went_stopped _ _ _ _ _ _ _ _ _ _ _ _ _ _ _ (arrives _ _ _ _ _ _ _ _ _ _ _ _ _ _ _ _ _ c.loop-heap.invariant c.settle-here.ensures.result_after c.settle-here.ensures.frame_placed c.settle-here.auto.frames) _ _ _ _ _ c.if-i-eq0.false (omega (arith, c.if-left-eq0.false)) (c.go-went.ensures.goes (λ z. stops_tries _ (sym c.in-Err-went.is ∙ z))) c.in-Err-went.is c.ended-in-Err-went.ensures)

pub onward-start-requires : goal.onward-start-requires
onward-start-requires c = search rules

pub limited-old-requires : goal.limited-old-requires
limited-old-requires c = search rules

pub run_try-tried-requires : goal.run_try-tried-requires
run_try-tried-requires c = let t = c.go-went.ensures.tries (step_is _ _ _ c.in-Ok-Tries.is (rw c.in-Ok-Tries.is at c.in-Ok-Tries.field-0-is)) in record {
  formed = (c.requires.formed.0, c.requires.formed.2, omega arith, omega (arith, c.if-left-eq0.false));
  goal_bound = rw c.onward-start.ensures
      (in_length c.requires.formed.0 _ c.if-file-i.false, c.if-i-eq0.false, t.0, onward_placed _ (placed_as c.go-went.auto.frames c.settle-here.ensures.frame_placed));
}

pub run_try-tried-requires-else-file-lt-MAX_BYTES : goal.run_try-tried-requires-else-file-lt-MAX_BYTES
run_try-tried-requires-else-file-lt-MAX_BYTES c = let t = c.go-went.ensures.tries (step_is _ _ _ c.in-Ok-Tries.is (rw c.in-Ok-Tries.is at c.in-Ok-Tries.field-0-is)) in record {
  formed = (c.requires.formed.0, c.requires.formed.2, omega arith, omega (arith, c.if-left-eq0.false));
  goal_bound = rw c.onward-start.ensures
      (in_length c.requires.formed.0 _ c.if-file-i.false, c.if-i-eq0.false, t.0, onward_placed _ (placed_as c.go-went.auto.frames c.settle-here.ensures.frame_placed));
}

pub limited-heap-requires : goal.limited-heap-requires
limited-heap-requires c = search rules

pub onward-state-requires-in-Ok-tried : goal.onward-state-requires-in-Ok-tried
onward-state-requires-in-Ok-tried c = search rules

pub loop-heap-smaller : goal.loop-heap-smaller
loop-heap-smaller c =
    elim c.if-file-lt-MAX_BYTES.branch [
      | then-file-lt-MAX_BYTES t ↦ ((t.run_try-tried.ensures [] []).fewer _ _ _ (sym t.tried-is ∙ c.in-Ok-tried.is)).0
      | else-file-lt-MAX_BYTES t ↦ ((t.run_try-tried-else-file-lt-MAX_BYTES.ensures [] []).fewer _ _ _ (sym t.tried-is ∙ c.in-Ok-tried.is)).0
    ]

pub loop-heap-preserved : goal.loop-heap-preserved
loop-heap-preserved c =
    let e = c.go-went.ensures.tries (step_is _ _ _ c.in-Ok-Tries.is (rw c.in-Ok-Tries.is at c.in-Ok-Tries.field-0-is)) in
    let here = told _ _ _ _ _ _ _ _ _ _ _ _ _ _ _ (arrives _ _ _ _ _ _ _ _ _ _ _ _ _ _ _ _ _ c.loop-heap.invariant c.settle-here.ensures.result_after c.settle-here.ensures.frame_placed c.settle-here.auto.frames) _ _ e.1 e.2 in
    elim c.if-file-lt-MAX_BYTES.branch [
      | then-file-lt-MAX_BYTES t ↦ rw (t.cells-is, t.regions-is, t.frames-is)
          (tried_on _ _ _ _ _ _ _ _ _ _ _ _ _ _ _ here _ _ _ _ _ _ _ _ _ (tried_apart _ _ _ _ _ _ _ _ _ _ _ _ _ _ c.onward-start.ensures (c.limited-old.ensures refl refl) (t.run_try-tried.ensures _ _)) (sym t.tried-is ∙ c.in-Ok-tried.is)
          c.onward-state-in-Ok-tried.ensures c.limited-heap.ensures t.run_try-tried.auto.cells t.run_try-tried.auto.regions t.run_try-tried.auto.frames)
      | else-file-lt-MAX_BYTES t ↦ rw (t.cells-is, t.regions-is, t.frames-is)
          (tried_on _ _ _ _ _ _ _ _ _ _ _ _ _ _ _ here _ _ _ _ _ _ _ _ _ (tried_apart _ _ _ _ _ _ _ _ _ _ _ _ _ _ c.onward-start.ensures (c.limited-old.ensures refl refl) (t.run_try-tried-else-file-lt-MAX_BYTES.ensures _ _)) (sym t.tried-is ∙ c.in-Ok-tried.is)
          c.onward-state-in-Ok-tried.ensures c.limited-heap.ensures t.run_try-tried-else-file-lt-MAX_BYTES.auto.cells t.run_try-tried-else-file-lt-MAX_BYTES.auto.regions t.run_try-tried-else-file-lt-MAX_BYTES.auto.frames)
    ]

pub overflow_sub-steps-in-Err-tried : goal.overflow_sub-steps-in-Err-tried
overflow_sub-steps-in-Err-tried c =
    elim c.if-file-lt-MAX_BYTES.branch [
      | then-file-lt-MAX_BYTES t ↦ omega (arith, (t.run_try-tried.ensures [] []).most _ _ (sym t.tried-is ∙ c.in-Err-tried.is), c.loop-heap.invariant.most)
      | else-file-lt-MAX_BYTES t ↦ omega (arith, (t.run_try-tried-else-file-lt-MAX_BYTES.ensures [] []).most _ _ (sym t.tried-is ∙ c.in-Err-tried.is), c.loop-heap.invariant.most)
    ]

pub shape_of-cells-in-Err-tried : goal.shape_of-cells-in-Err-tried
shape_of-cells-in-Err-tried c =
    elim c.if-file-lt-MAX_BYTES.branch [
      | then-file-lt-MAX_BYTES t ↦ rw t.cells-is (t.run_try-tried.auto.cells ∙ c.loop-heap.invariant.cells)
      | else-file-lt-MAX_BYTES t ↦ rw t.cells-is (t.run_try-tried-else-file-lt-MAX_BYTES.auto.cells ∙ c.loop-heap.invariant.cells)
    ]

pub shape_of-regions-in-Err-tried : goal.shape_of-regions-in-Err-tried
shape_of-regions-in-Err-tried c =
    elim c.if-file-lt-MAX_BYTES.branch [
      | then-file-lt-MAX_BYTES t ↦ rw t.regions-is (t.run_try-tried.auto.regions ∙ c.loop-heap.invariant.regions)
      | else-file-lt-MAX_BYTES t ↦ rw t.regions-is (t.run_try-tried-else-file-lt-MAX_BYTES.auto.regions ∙ c.loop-heap.invariant.regions)
    ]

pub shape_of-frames-in-Err-tried : goal.shape_of-frames-in-Err-tried
shape_of-frames-in-Err-tried c =
    elim c.if-file-lt-MAX_BYTES.branch [
      | then-file-lt-MAX_BYTES t ↦ rw t.frames-is (t.run_try-tried.auto.frames ∙ c.go-went.auto.frames ∙ c.settle-here.auto.frames ∙ c.loop-heap.invariant.frames)
      | else-file-lt-MAX_BYTES t ↦ rw t.frames-is (t.run_try-tried-else-file-lt-MAX_BYTES.auto.frames ∙ c.go-went.auto.frames ∙ c.settle-here.auto.frames ∙ c.loop-heap.invariant.frames)
    ]

pub shape_of-prints-in-Err-tried : goal.shape_of-prints-in-Err-tried
shape_of-prints-in-Err-tried c =
    c.go-went.auto.prints ∙ c.loop-heap.invariant.prints

pub returns-in-Err-tried : goal.returns-in-Err-tried
returns-in-Err-tried c =
    let e = c.go-went.ensures.tries (step_is _ _ _ c.in-Ok-Tries.is (rw c.in-Ok-Tries.is at c.in-Ok-Tries.field-0-is)) in
    let here = told _ _ _ _ _ _ _ _ _ _ _ _ _ _ _ (arrives _ _ _ _ _ _ _ _ _ _ _ _ _ _ _ _ _ c.loop-heap.invariant c.settle-here.ensures.result_after c.settle-here.ensures.frame_placed c.settle-here.auto.frames) _ _ e.1 e.2 in
    first_as _ _ _ _ _ _ _ _ _ _ _ _ _ _ _ _ c.empty-heap.ensures c.first_state-state.ensures
    (elim c.if-file-lt-MAX_BYTES.branch [
      | then-file-lt-MAX_BYTES t ↦ rw (t.cells-is, t.regions-is, t.frames-is)
          (tried_stopped _ _ _ _ _ _ _ _ _ _ _ _ _ _ _ here _ _ _ _ _ _ _ (tried_apart _ _ _ _ _ _ _ _ _ _ _ _ _ _ c.onward-start.ensures (c.limited-old.ensures refl refl) (t.run_try-tried.ensures _ _)) (sym t.tried-is ∙ c.in-Err-tried.is) c.ended-in-Err-tried.ensures)
      | else-file-lt-MAX_BYTES t ↦ rw (t.cells-is, t.regions-is, t.frames-is)
          (tried_stopped _ _ _ _ _ _ _ _ _ _ _ _ _ _ _ here _ _ _ _ _ _ _ (tried_apart _ _ _ _ _ _ _ _ _ _ _ _ _ _ c.onward-start.ensures (c.limited-old.ensures refl refl) (t.run_try-tried-else-file-lt-MAX_BYTES.ensures _ _)) (sym t.tried-is ∙ c.in-Err-tried.is) c.ended-in-Err-tried.ensures)
    ])
