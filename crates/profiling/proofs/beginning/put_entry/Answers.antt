use Rattle.std.proofs.Common.{arith}
use Rattle.profiling.specs.Entering.{entry_put}
use Rattle.profiling.proofs.beginning.put_entry.Goals as goal

pub returns : goal.returns
returns c = let p = c.put_line.ensures in record {
  by_index = (λ f T l m rs fw ps log own S z. entry_put S z _ c.held_at.ensures p.put);
  upper_bound = omega (arith, p.upper_bound, c.requires);
}
