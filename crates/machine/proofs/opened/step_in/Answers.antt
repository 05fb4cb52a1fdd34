use Rattle.std.proofs.Common.{arith}
use mathlib.Core.Path.{sym, ◌∙◌}
use Rattle.frames.specs.Strays.{whole}
use Rattle.machine.specs.Calls.{successor_as}
use Rattle.machine.proofs.CallsLaws.{entry_as}
use Rattle.machine.proofs.Numbers.{literal_low, assign_low, switch_low, arm_low}
use Rattle.machine.proofs.StepsLaws.{literal_goes, assign_goes, switch_goes}
use Rattle.machine.proofs.TryingLaws.{literal_in_law, assign_in_law, switch_in, other_in}
use Rattle.machine.proofs.opened.step_in.Goals as goal

pub word_in-requires : goal.word_in-requires
word_in-requires c = (omega arith, (whole c.requires.formed.0 _ c.requires.goal_bound.0).1)

pub literal-requires : goal.literal-requires
literal-requires c = record {
  record_bytes_in_bounds = ((whole c.requires.formed.0 _ c.requires.goal_bound.0).1, c.requires.goal_bound.2.fits);
  goal_x_bound = literal_low c.requires.formed.1 _ c.word_in.ensures.0 c.in-8.is;
}

pub successor-requires : goal.successor-requires
successor-requires c = (whole c.requires.formed.0 _ c.requires.goal_bound.0).0

pub sum_in-requires : goal.sum_in-requires
sum_in-requires c = record {
  formed = (c.requires.formed.0, c.requires.formed.1);
  goal_bound = (c.requires.goal_bound.0, (sym c.word_in.ensures.0 ∙ c.in-9.is), c.requires.goal_bound.2);
}

pub assign-requires : goal.assign-requires
assign-requires c = record {
  record_bytes_in_bounds = ((whole c.requires.formed.0 _ c.requires.goal_bound.0).1, c.requires.goal_bound.2.fits);
  goal_x_bound = assign_low c.requires.formed.1 _ c.word_in.ensures.0 c.in-10.is;
}

pub successor-requires-in-10 : goal.successor-requires-in-10
successor-requires-in-10 c = (whole c.requires.formed.0 _ c.requires.goal_bound.0).0

pub construct_in-requires : goal.construct_in-requires
construct_in-requires c = record {
  formed = c.requires.formed;
  goal_bound = (c.requires.goal_bound.0, (sym c.word_in.ensures.0 ∙ c.in-11.is), c.requires.goal_bound.2);
}

pub switch_arm-j-requires : goal.switch_arm-j-requires
switch_arm-j-requires c = record {
  formed = c.requires.formed.0;
  i_bound = (c.requires.goal_bound.0, (sym c.word_in.ensures.0 ∙ c.in-12.is), c.requires.goal_bound.2.fits);
  goal_x_bound = (switch_low c.requires.formed.1 _ c.word_in.ensures.0 c.in-12.is, arm_low c.requires.formed.1);
}

pub successor-requires-in-12 : goal.successor-requires-in-12
successor-requires-in-12 c = (whole c.requires.formed.0 _ c.switch_arm-j.ensures.upper_bound).0

pub create_in-requires : goal.create_in-requires
create_in-requires c = record {
  formed = c.requires.formed;
  goal_bound = (c.requires.goal_bound.0, (sym c.word_in.ensures.0 ∙ c.in-18.is), c.requires.goal_bound.2);
}

pub remove_in-requires : goal.remove_in-requires
remove_in-requires c = record {
  formed = c.requires.formed;
  goal_bound = (c.requires.goal_bound.0, (sym c.word_in.ensures.0 ∙ c.in-19.is), c.requires.goal_bound.2);
}

pub test_in-requires : goal.test_in-requires
test_in-requires c = record {
  formed = (c.requires.formed.0, c.requires.formed.1);
  goal_bound = (c.requires.goal_bound.0, (sym c.word_in.ensures.0 ∙ c.in-21.is), c.requires.goal_bound.2);
}

pub returns-in-8 : goal.returns-in-8
returns-in-8 c = λ images callees. literal_in_law _ _ _ _ _ _ _ _ _ _ c.word_in.ensures.0 c.in-8.is _ _ (λ ps. literal_goes _ _ _ _ _ _ c.requires.goal_bound.2 _ _ c.word_in.ensures.0 (successor_as _ _ _ _ _ c.successor.ensures) _ c.in-8.is c.literal.ensures)

pub returns-in-9 : goal.returns-in-9
returns-in-9 c = λ images callees. c.sum_in.ensures images callees _ _ _

pub returns-in-10 : goal.returns-in-10
returns-in-10 c = λ images callees. assign_in_law _ _ _ _ _ _ _ _ _ _ c.word_in.ensures.0 c.in-10.is _ _ (λ ps. assign_goes _ _ _ _ _ _ c.requires.goal_bound.2 _ _ c.word_in.ensures.0 (successor_as _ _ _ _ _ c.successor-in-10.ensures) _ c.in-10.is c.assign.ensures)

pub returns-in-11 : goal.returns-in-11
returns-in-11 c = c.construct_in.ensures

pub returns-in-12 : goal.returns-in-12
returns-in-12 c = λ images callees. switch_in _ _ _ _ _ _ _ _ _ _ c.word_in.ensures.0 c.in-12.is _ _ (λ ps. switch_goes _ _ _ _ _ _ c.requires.goal_bound.2 _ c.word_in.ensures.0 _ _ _ c.in-12.is c.switch_arm-j.ensures.value c.switch_arm-j.ensures.frames_after (entry_as _ _ _ _ _ c.successor-in-12.ensures))

pub returns-in-18 : goal.returns-in-18
returns-in-18 c = λ images callees. c.create_in.ensures images callees _

pub returns-in-19 : goal.returns-in-19
returns-in-19 c = λ images callees. c.remove_in.ensures images callees _ _

pub returns-in-21 : goal.returns-in-21
returns-in-21 c = λ images callees. c.test_in.ensures images callees _ _ _

pub returns-in_default : goal.returns-in_default
returns-in_default c = λ images callees. other_in _ _ _ _ _ _ _ _ _ _ _ c.requires.goal_bound.2.place _ c.word_in.ensures.0 c.requires.goal_bound.1 c.in_default.in_default-own.rest.0.0.0.0.0.0.0.1 c.in_default.in_default-own.rest.0.0.0.0.0.0.1 c.in_default.in_default-own.rest.0.0.0.0.0.1 c.in_default.in_default-own.rest.0.0.0.0.1 c.in_default.in_default-own.rest.0.0.0.1 c.in_default.in_default-own.rest.0.0.1 c.in_default.in_default-own.rest.0.1 c.in_default.in_default-own.rest.1
