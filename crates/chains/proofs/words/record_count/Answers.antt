-- Number 1 has the length be 16 bytes for each record.
use Rattle.std.proofs.Common.{arith}
use Rattle.chains.specs.Formed.{counted}
use Rattle.chains.proofs.words.record_count.Goals as goal

pub returns : goal.returns
returns c = let n = counted c.requires in omega arith
