use Rattle.profiling.specs.Turning.{step_is}
use Rattle.profiling.specs.Moving.{ends}
use Rattle.profiling.specs.Behind.{ready_long}
use Rattle.profiling.specs.Going.{moves_on, moves_lacks, moves_tries}
use mathlib.Core.Path.{refl}
use Rattle.std.proofs.Common.{rules}
use Rattle.profiling.proofs.moving.outside.Goals as goal

pub count-counts-requires : goal.count-counts-requires
count-counts-requires c = c.requires.ready.few

pub step-turn-requires : goal.step-turn-requires
step-turn-requires c = record {
  formed = c.requires.formed.0;
  narrow = (c.requires.formed.1, c.requires.formed.2);
  goal_bound = (c.requires.ready.low, c.requires.ready.placed);
}

pub overflow_add-result : goal.overflow_add-result
overflow_add-result c = let h = c.requires.ready.more in search rules

pub enter-requires : goal.enter-requires
enter-requires c = record {
  formed = (c.requires.formed.0, c.requires.formed.1);
  ready = ready_long c.step-turn.auto.frames c.requires.ready;
}

pub shape_of-cells-in-Ok-On : goal.shape_of-cells-in-Ok-On
shape_of-cells-in-Ok-On c = c.step-turn.auto.cells

pub returns-in-Ok-On : goal.returns-in-Ok-On
returns-in-Ok-On c = λ l log H o q. moves_on H c.requires.ready.busy o q c.step-turn.ensures _ _ _ _ _ (step_is _ _ _ c.in-Ok-On.is (rw c.in-Ok-On.is at c.in-Ok-On.field-0-is)) (c.count-counts.ensures _ _ refl) refl c.closed.ensures c.step-turn.auto.cells c.step-turn.auto.regions c.step-turn.auto.frames c.step-turn.auto.prints _

pub returns-in-Err : goal.returns-in-Err
returns-in-Err c = λ l log H o q. ends (moves_lacks H c.requires.ready.busy o q c.step-turn.ensures _ c.in-Err.is)

pub returns-in-Ok-Tries : goal.returns-in-Ok-Tries
returns-in-Ok-Tries c = λ l log H o q. moves_tries c.step-turn.ensures (step_is _ _ _ c.in-Ok-Tries.is (rw c.in-Ok-Tries.is at c.in-Ok-Tries.field-0-is)) (λ G t. c.enter.ensures l _ _ _ log G o q t) H
