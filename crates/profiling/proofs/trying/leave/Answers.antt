use Rattle.frames.specs.Strays.{whole}
use Rattle.profiling.specs.Behind.{leaves_made}
use Rattle.profiling.proofs.trying.leave.Goals as goal

pub then_goal-goal-requires : goal.then_goal-goal-requires
then_goal-goal-requires c = whole c.requires.formed.0 _ c.requires.ready_in.try_low

pub behind-requires : goal.behind-requires
behind-requires c = record {
  formed = c.requires.formed;
  frame_placed = (c.requires.ready_in.ready.placed, c.requires.ready_in.ready.more);
}

pub returns : goal.returns
returns c = leaves_made _ _ _ _ c.behind.ensures.heap_value c.then_goal-goal.ensures c.free_log-freed.ensures c.behind.ensures.behind
