use mathlib.Core.Path.{refl}
use Rattle.profiling.specs.Turning.{placed_onward}
use Rattle.profiling.specs.Behind.{behind_made}
use Rattle.std.proofs.Common.{rules}
use Rattle.profiling.proofs.trying.behind.Goals as goal

pub settle-requires : goal.settle-requires
settle-requires c = record {
  formed = (c.requires.formed.0, placed_onward _ c.onward-next.ensures refl c.requires.frame_placed.0);
  narrow = c.requires.formed.1;
}

pub overflow_add-result : goal.overflow_add-result
overflow_add-result c = search rules

pub returns : goal.returns
returns c = record {
  behind = behind_made c.onward-next.ensures c.settle.ensures.result_after c.settle.ensures.frame_placed c.closed.ensures;
  heap_value = refl;
}
