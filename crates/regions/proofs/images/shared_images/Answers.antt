use Rattle.regions.proofs.DoubledLaws.{see_first, see_more, see_last}
use Rattle.regions.proofs.ImagesLaws.{image_here}
use Rattle.regions.proofs.images.shared_images.Goals as goal

pub loop-r-init : goal.loop-r-init
loop-r-init c = see_first _ _ (rw c.into_iter-r-iterator.ensures.into_iter_gives c.members-r-items.ensures)

pub loop-r-preserved : goal.loop-r-preserved
loop-r-preserved c =
    see_more _ _ c.loop-r.invariant c.in-Some.ensures.steps (image_here c.args.images.now _ c.entry.ensures c.of-one.ensures) c.intersection.ensures
    c.union-twice.ensures c.union-seen.ensures

pub returns : goal.returns
returns c = see_last _ _ c.loop-r.invariant c.in-None.ensures.steps.0
