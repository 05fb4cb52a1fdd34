use Rattle.machine.proofs.Numbers.{if_low}
use mathlib.Core.Path.{refl}
use Rattle.machine.specs.Calls.{successor_as}
use Rattle.machine.proofs.StepsLaws.{goes_same, if_goes}
use Rattle.frames.specs.Strays.{whole}
use Rattle.machine.proofs.steps.if_step.Goals as goal

pub part_of-part-requires : goal.part_of-part-requires
part_of-part-requires c = record {
  record_bytes_in_bounds = ((whole c.requires.formed.0 _ c.requires.goal_bound.0).1, c.requires.goal_bound.2.fits);
  if_y_bound = if_low c.requires.formed.1 _ refl c.requires.goal_bound.1;
}

pub successor-requires : goal.successor-requires
successor-requires c = (whole c.requires.formed.0 _ c.requires.goal_bound.0).0

pub returns : goal.returns
returns c =
    λ images callees m ps. goes_same _ _ _ _ _ _ _ _ _ _ c.onward.ensures
    (if_goes _ _ _ _ _ _ c.requires.goal_bound.2 _ _ refl (successor_as _ _ _ _ _ c.successor.ensures) _ _ c.requires.goal_bound.1 c.part_of-part.ensures c.onto.ensures)
