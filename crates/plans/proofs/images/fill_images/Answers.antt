-- The pass from record i on is still to do, `at` counts the images of the calls before it, those of the last stand in `found`, and every byte is 0 or
-- a region's number.
use Rattle.std.proofs.Common.{arith, refl}
use Rattle.language.specs.File.{record_count}
use Rattle.chains.specs.Formed.{counted}
use Rattle.plans.specs.Passes.{picturing}
use Rattle.plans.specs.Images.{found_none}
use Rattle.plans.specs.Pictures.{copied_keeps, before_few, count_few}
use Rattle.plans.specs.Turns.{pass_first, pass_below, pass_more, pass_last, given_ready, before_first, before_more, pictured_next}
use Rattle.plans.proofs.images.fill_images.Goals as goal

pub loop-i-init : goal.loop-i-init
unfolding record_count
loop-i-init c =
    (pass_first _ _ c.word-records.ensures.0, before_first c.requires.given.formed, found_none c.requires.given.formed refl, c.requires.regional)

pub image_count-n-requires : goal.image_count-n-requires
image_count-n-requires c = let P = c.loop-i.invariant.0 in record {
  typed_and_filled = given_ready c.requires.given;
  i_nonzero = (P.some, pass_below _ P c.loop-i-test.true);
}

pub next_images-last-requires : goal.next_images-last-requires
next_images-last-requires c = let P = c.loop-i.invariant in record {
  given = c.requires.given;
  i_nonzero = (P.0.some, pass_below _ P.0 c.loop-i-test.true);
  last_call = P.2;
}

pub copy_images-requires : goal.copy_images-requires
copy_images-requires c = let f = c.args.file.now in let n = count_few f c.requires.given.typed c.loop-i.i in let e = c.image_count-n.ensures in let p = pass_below _ c.loop-i.invariant.0 c.loop-i-test.true in record {
  n_lt_places = omega (arith, e, n);
  n_bound = omega (arith, e, n, c.loop-i.invariant.1, p, before_few f c.requires.given.typed c.loop-i.i, (counted c.requires.given.formed).most);
  by_index = c.next_images-last.ensures.last_call_2.regions.below;
}

pub overflow_add-at : goal.overflow_add-at
overflow_add-at c =
    let f = c.args.file.now in
    let p = pass_below _ c.loop-i.invariant.0 c.loop-i-test.true in
    omega (arith, p, (counted c.requires.given.formed).most, c.loop-i.invariant.1, c.image_count-n.ensures, before_few f c.requires.given.typed c.loop-i.i, count_few f c.requires.given.typed c.loop-i.i)

pub loop-i-preserved : goal.loop-i-preserved
loop-i-preserved c =
    let D = c.next_images-last.ensures in
    let e = c.image_count-n.ensures in (
      pass_more _ c.loop-i.invariant.0 c.loop-i-test.true (pictured_next D.last_call_2 D.value e c.loop-i.invariant.1 c.loop-i.images c.copy_images.ensures),
      before_more _ c.loop-i.i c.loop-i.invariant.1 e,
      D.last_call_2,
      rw c.copy_images.ensures (copied_keeps _ D.last_call_2.regions.below _ _ c.loop-i.images c.loop-i.invariant.3),
    )

pub returns : goal.returns
unfolding picturing
returns c = record {
  regional_2 = c.loop-i.invariant.3;
  images_after = pass_last _ c.loop-i.invariant.0 (omega arith);
}
