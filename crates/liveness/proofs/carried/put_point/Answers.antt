use Rattle.liveness.proofs.CarriedLaws.{noted}
use Rattle.std.proofs.Common.{rules}
use Rattle.liveness.proofs.carried.put_point.Goals as goal

pub returns : goal.returns
returns c = search (noted, rules)
