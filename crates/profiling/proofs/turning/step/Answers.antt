use Rattle.std.proofs.lemmas.Result.{err_from_is_err_and}
use Rattle.frames.specs.Strays.{whole}
use Rattle.machine.specs.Calls.{successor_as}
use Rattle.machine.specs.Heaps.{changed, unchanged}
use Rattle.profiling.specs.Turning.{step_is, placed_long, placed_onward, changed_turns, change_lacks, went_placed, went_turns, went_lacks, went_tries}
use Rattle.std.proofs.Common.{rules}
use Rattle.profiling.proofs.turning.step.Goals as goal

pub word_in-requires : goal.word_in-requires
word_in-requires c = let w = whole c.requires.formed _ c.requires.goal_bound.0 in search rules

pub change_heap-requires : goal.change_heap-requires
change_heap-requires c = record {
  formed = (c.requires.formed, c.requires.narrow.1);
  goal_bound = c.requires.goal_bound;
  changes = changed _ _ _ c.word_in.ensures.0 c.changes_heap.ensures c.if-changes_heap.true;
}

pub successor-requires : goal.successor-requires
successor-requires c = let w = whole c.requires.formed _ c.requires.goal_bound.0 in search rules

pub settle-requires : goal.settle-requires
settle-requires c = record {
  formed = (c.requires.formed, placed_onward _ c.onward-next.ensures c.change_heap.auto.frames c.requires.goal_bound.1);
  narrow = c.requires.narrow.0;
}

pub returns-then-changes_heap : goal.returns-then-changes_heap
returns-then-changes_heap c =
    changed_turns _ _ _ _ _ _ _ _ _ _ _ _ (c.change_heap.ensures _ _) _ _ _ _ _ c.in_ok-left.was (successor_as _ _ _ _ _ c.successor.ensures)
    c.onward-next.ensures c.settle.ensures.result_after c.settle.ensures.frame_placed

pub returns-in_err-left : goal.returns-in_err-left
returns-in_err-left c =
    let p = err_from_is_err_and c.from_residual.result c.from_residual.ensures.1 in
    rw (p.1, p.2) (change_lacks _ _ _ _ _ _ _ _ _ _ _ _ (c.change_heap.ensures _ _) _ c.in_err-left.was)

pub go-requires : goal.go-requires
go-requires c = record {
  formed = (c.requires.formed, c.requires.narrow.1);
  narrow = c.requires.narrow.0;
  goal_bound = c.requires.goal_bound;
  changes = unchanged _ _ _ c.word_in.ensures.0 c.changes_heap.ensures c.if-changes_heap.false;
}

pub settle-requires-in-Went : goal.settle-requires-in-Went
settle-requires-in-Went c = record {
  formed = (c.requires.formed, placed_long c.go.auto.frames (went_placed c.go.ensures (step_is _ _ _ c.in_ok-went.was c.in-Went.is)));
  narrow = c.requires.narrow.0;
}

pub returns-in-Went : goal.returns-in-Went
returns-in-Went c =
    went_turns _ _ _ _ _ _ _ _ _ _ _ c.go.ensures _ _ _ (step_is _ _ _ c.in_ok-went.was c.in-Went.is) c.settle-in-Went.ensures.result_after c.settle-in-Went.ensures.frame_placed

pub returns-in_err-went : goal.returns-in_err-went
returns-in_err-went c =
    let p = err_from_is_err_and c.from_residual-in_err-went.result c.from_residual-in_err-went.ensures.1 in
    rw (p.1, p.2) (went_lacks _ _ _ _ _ _ _ _ _ _ _ c.go.ensures _ c.in_err-went.was)

pub returns-in-Tries : goal.returns-in-Tries
returns-in-Tries c = went_tries _ _ _ _ _ _ _ _ _ _ _ c.go.ensures (step_is _ _ _ c.in_ok-went.was c.in-Tries.is)
