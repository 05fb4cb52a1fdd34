-- The places below `at` are turned, the others as they were.
use Rattle.std.proofs.Common.{arith}
use Rattle.insertion.proofs.WantsLaws.{turned_none, turned_more, turned_whole}
use Rattle.insertion.proofs.points.list_wanted.Goals as goal

pub loop-at-init : goal.loop-at-init
loop-at-init c =
    (turned_none _ _ _, c.requires.start_le_point_words)

pub loop-at-preserved : goal.loop-at-preserved
loop-at-preserved c =
    (turned_more c.loop-at.invariant.0 (omega (arith, c.loop-at.invariant.0.same, c.requires.points_len)) c.loaded.ensures c.wanted_in-wanted.ensures c.stored.ensures, omega arith)

pub returns : goal.returns
returns c =
    turned_whole c.loop-at.invariant.0 c.loop-at.invariant.1 c.loop-at-test.false
