use Rattle.machine.proofs.GoalsLaws.{region_as, remove_as}
use Rattle.machine.proofs.places.drop_region.Goals as goal

pub returns : goal.returns
returns c = remove_as _ _ _ _ _ _ _ _ c.remove.ensures (region_as _ _ _ _ _ c.args.frames.now c.region-place.ensures c.word_in.ensures.0)
