use Rattle.machine.proofs.Numbers.{switch_low, arm_low}
use mathlib.Core.Path.{refl}
use Rattle.machine.proofs.CallsLaws.{entry_as}
use Rattle.machine.proofs.StepsLaws.{goes_same, switch_goes}
use Rattle.frames.specs.Strays.{whole}
use Rattle.machine.proofs.steps.switch_step.Goals as goal

pub switch_arm-j-requires : goal.switch_arm-j-requires
switch_arm-j-requires c = record {
  formed = c.requires.formed.0;
  i_bound = (c.requires.goal_bound.0, c.requires.goal_bound.1, c.requires.goal_bound.2.fits);
  goal_x_bound = (switch_low c.requires.formed.1 _ refl c.requires.goal_bound.1, arm_low c.requires.formed.1);
}

pub successor-requires : goal.successor-requires
successor-requires c = (whole c.requires.formed.0 _ c.switch_arm-j.ensures.upper_bound).0

pub returns : goal.returns
returns c =
    λ images callees ps. goes_same _ _ _ _ _ _ _ _ _ _ c.onward.ensures
    (switch_goes _ _ _ _ _ _ c.requires.goal_bound.2 _ refl _ _ _ c.requires.goal_bound.1 c.switch_arm-j.ensures.value c.switch_arm-j.ensures.frames_after (entry_as _ _ _ _ _ c.successor.ensures))
