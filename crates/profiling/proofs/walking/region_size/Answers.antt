-- The cells passed and those still to come make the region's.
use Rattle.std.proofs.Common.{◌≡◌, ◌∙◌, arith}
use Rattle.profiling.specs.Walking.{passed_none, passed_last, passed_more, passed_all, size_none, size_walked}
use Rattle.profiling.proofs.walking.region_size.Goals as goal

pub returns-then-limit-last : goal.returns-then-limit-last
returns-then-limit-last c = size_none _ _ _ _ c.word-last.ensures c.if-limit-last.true

pub loop-n-init : goal.loop-n-init
loop-n-init c = passed_none _ _ _ _

pub returns-then-cell-last : goal.returns-then-cell-last
returns-then-cell-last c =
    size_walked _ _ _ _ c.word-last.ensures (omega arith) c.word-cell.ensures (passed_last c.loop-n.invariant (omega arith) c.if-cell-last.true)

pub loop-n-preserved : goal.loop-n-preserved
loop-n-preserved c = rw c.cell_word-cell.ensures (passed_more c.loop-n.invariant (omega arith) c.if-cell-last.false)

pub returns : goal.returns
returns c =
    let e : c.args.limit ≡ c.loop-n.n = omega arith in
    size_walked _ _ _ _ c.word-last.ensures (omega arith) c.word-cell.ensures (e ∙ passed_all c.loop-n.invariant (omega arith))
