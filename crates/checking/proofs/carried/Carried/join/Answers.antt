use Rattle.checking.proofs.CarriedLaws.{join_differs, join_same}
use Rattle.checking.proofs.carried.Carried.join.Goals as goal

pub returns-then-not-same : goal.returns-then-not-same
returns-then-not-same c P S = λ d. join_differs P S c.args.self c.args.other c.same.ensures d c.if-not-same.true

pub returns : goal.returns
returns c P S = join_same P S c.args.self c.args.other c.same.ensures c.if-not-same.false c.intersection.ensures
