-- The pass from record i on is still to do, and `at` counts the images of the calls before it.
use Rattle.std.proofs.Common.{arith}
use Rattle.language.specs.File.{record_count}
use Rattle.chains.specs.Formed.{counted}
use Rattle.plans.specs.Passes.{siding}
use Rattle.plans.specs.Pictures.{before_few, count_few}
use Rattle.plans.specs.Turns.{pass_first, pass_below, pass_more, pass_last, given_ready, before_first, before_more, sided_here}
use Rattle.plans.proofs.sides.fill_sides.Goals as goal

pub loop-i-init : goal.loop-i-init
unfolding record_count
loop-i-init c = (pass_first _ _ c.word-n.ensures.0, before_first c.requires.formed)

pub side_of-requires : goal.side_of-requires
side_of-requires c = let P = c.loop-i.invariant.0 in record {
  given = c.requires;
  i_nonzero = (P.some, pass_below _ P c.loop-i-test.true);
}

pub overflow_add-plan : goal.overflow_add-plan
overflow_add-plan c =
    let l = pass_below _ c.loop-i.invariant.0 c.loop-i-test.true in
    omega (arith, l, (counted c.requires.formed).most)

pub bounds-plan-i : goal.bounds-plan-i
bounds-plan-i c =
    let l = pass_below _ c.loop-i.invariant.0 c.loop-i-test.true in
    omega (arith, l, (counted c.requires.formed).most)

pub image_count-at-requires : goal.image_count-at-requires
image_count-at-requires c = let P = c.loop-i.invariant.0 in record {
  typed_and_filled = given_ready c.requires;
  i_nonzero = (P.some, pass_below _ P c.loop-i-test.true);
}

pub overflow_add-at : goal.overflow_add-at
overflow_add-at c =
    let f = c.args.file.now in
    let p = pass_below _ c.loop-i.invariant.0 c.loop-i-test.true in
    omega (arith, p, (counted c.requires.formed).most, c.loop-i.invariant.1, c.image_count-at.ensures, before_few f c.requires.typed c.loop-i.i, count_few f c.requires.typed c.loop-i.i)

pub loop-i-preserved : goal.loop-i-preserved
loop-i-preserved c =
    (pass_more _ c.loop-i.invariant.0 c.loop-i-test.true (sided_here _ c.loop-i.i c.loop-i.plan c.loop-i.invariant.1 c.side_of.ensures), before_more _ c.loop-i.i c.loop-i.invariant.1 c.image_count-at.ensures)

pub returns : goal.returns
unfolding siding
returns c = pass_last _ c.loop-i.invariant.0 (omega arith)
