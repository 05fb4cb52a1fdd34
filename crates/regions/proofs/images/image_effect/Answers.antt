use Rattle.regions.proofs.ImagesLaws.{imaged_effect}
use Rattle.regions.proofs.images.image_effect.Goals as goal

pub returns : goal.returns
returns c =
    imaged_effect _ _ c.set_at-dead.ensures c.set_at-born.ensures c.set_at.ensures c.union.ensures c.images_of-needs.ensures c.images_of-bears.ensures c.images_of-ends.ensures
    c.set_at-2.ensures c.shared_images-twice.ensures c.union-2.ensures c.intersection-both.ensures c.same.ensures
