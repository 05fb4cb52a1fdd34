use Rattle.insertion.proofs.StartsLaws.{lays_start}
use Rattle.std.proofs.Common.{rules}
use Rattle.insertion.proofs.starts.start_part.Goals as goal

pub returns : goal.returns
returns c = search (lays_start, rules)
