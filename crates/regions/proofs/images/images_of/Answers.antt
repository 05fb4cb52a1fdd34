use Rattle.sets.specs.Gathering.{gathered_first, gathered_more, gathered_last}
use Rattle.regions.proofs.ImagesLaws.{image_here, images_are}
use Rattle.regions.proofs.images.images_of.Goals as goal

pub loop-r-init : goal.loop-r-init
loop-r-init c = gathered_first _ _ (rw c.into_iter-r-iterator.ensures.into_iter_gives c.members-r-items.ensures)

pub loop-r-preserved : goal.loop-r-preserved
loop-r-preserved c = gathered_more _ _ c.loop-r.invariant c.in-Some.ensures.steps (image_here c.args.images.now _ c.entry.ensures c.of.ensures) c.union-found.ensures

pub returns : goal.returns
returns c = images_are _ _ (gathered_last _ _ c.loop-r.invariant c.in-None.ensures.steps.0)
