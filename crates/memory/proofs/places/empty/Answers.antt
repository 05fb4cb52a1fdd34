use Rattle.memory.specs.Memory.{empty_heap}
use Rattle.memory.proofs.places.empty.Goals as goal

pub returns : goal.returns
unfolding empty_heap
returns c = cc
