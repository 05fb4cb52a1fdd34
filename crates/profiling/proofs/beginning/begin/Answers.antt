use mathlib.Core.Path.{refl}
use Rattle.profiling.specs.Entering.{begin_stands}
use Rattle.profiling.proofs.beginning.begin.Goals as goal

pub returns : goal.returns
returns c = λ f plan images ps l e B some log own ll. (
  refl,
  begin_stands f plan images _ _ _ _ _ ps l _ _ _ _ _ c.size_of.ensures c.clear.ensures c.first_state.ensures c.empty.ensures
      c.closed.ensures c.no_counts.ensures c.clear.auto.frames e B some log own ll,
)
