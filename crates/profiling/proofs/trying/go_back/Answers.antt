use Rattle.frames.specs.Strays.{whole}
use Rattle.profiling.specs.Turning.{placed_long}
use Rattle.profiling.specs.Behind.{back_made}
use Rattle.profiling.proofs.trying.go_back.Goals as goal

pub else_goal-goal-requires : goal.else_goal-goal-requires
else_goal-goal-requires c = whole c.requires.formed.0 _ c.requires.ready_in.try_low

pub behind-requires : goal.behind-requires
behind-requires c = record {
  formed = c.requires.formed;
  frame_placed = (placed_long c.take_back_all-back.auto.frames c.requires.ready_in.ready.placed, c.requires.ready_in.ready.more);
}

pub returns : goal.returns
returns c = back_made _ _ _ _ c.behind.ensures.heap_value c.else_goal-goal.ensures c.take_back_all-back.ensures.by_index c.take_back_all-back.ensures.frames_after c.behind.ensures.behind
