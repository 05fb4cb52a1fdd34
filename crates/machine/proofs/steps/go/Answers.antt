use Rattle.std.proofs.Common.{arith}
use Rattle.machine.proofs.Numbers.{literal_low, assign_low}
use mathlib.Core.Path.{sym, ◌∙◌}
use Rattle.frames.specs.Strays.{whole}
use Rattle.machine.specs.Calls.{successor_as}
use Rattle.machine.proofs.StepsLaws.{goes_comes, try_comes, goes_same, literal_goes, assign_goes, else_goes}
use Rattle.machine.proofs.steps.go.Goals as goal

pub word_in-requires : goal.word_in-requires
word_in-requires c = (omega arith, (whole c.requires.formed.0 _ c.requires.goal_bound.0).1)

pub literal-requires : goal.literal-requires
literal-requires c = record {
  record_bytes_in_bounds = ((whole c.requires.formed.0 _ c.requires.goal_bound.0).1, c.requires.goal_bound.1.fits);
  goal_x_bound = literal_low c.requires.formed.1 _ c.word_in.ensures.0 c.in-8.is;
}

pub successor-requires : goal.successor-requires
successor-requires c = (whole c.requires.formed.0 _ c.requires.goal_bound.0).0

pub sum_step-requires : goal.sum_step-requires
sum_step-requires c = record {
  formed = c.requires.formed;
  goal_bound = (c.requires.goal_bound.0, sym c.word_in.ensures.0 ∙ c.in-9.is, c.requires.goal_bound.1);
}

pub assign-requires : goal.assign-requires
assign-requires c = record {
  record_bytes_in_bounds = ((whole c.requires.formed.0 _ c.requires.goal_bound.0).1, c.requires.goal_bound.1.fits);
  goal_x_bound = assign_low c.requires.formed.1 _ c.word_in.ensures.0 c.in-10.is;
}

pub successor-requires-in-10 : goal.successor-requires-in-10
successor-requires-in-10 c = (whole c.requires.formed.0 _ c.requires.goal_bound.0).0

pub switch_step-requires : goal.switch_step-requires
switch_step-requires c = record {
  formed = c.requires.formed;
  goal_bound = (c.requires.goal_bound.0, sym c.word_in.ensures.0 ∙ c.in-12.is, c.requires.goal_bound.1);
}

pub if_step-requires : goal.if_step-requires
if_step-requires c = record {
  formed = c.requires.formed;
  goal_bound = (c.requires.goal_bound.0, sym c.word_in.ensures.0 ∙ c.in-14.is, c.requires.goal_bound.1);
}

pub call_step-requires : goal.call_step-requires
call_step-requires c = record {
  formed = c.requires.formed.0;
  narrow = c.requires.narrow;
  goal_bound = (c.requires.goal_bound.0, sym c.word_in.ensures.0 ∙ c.in-15.is, c.requires.goal_bound.1);
}

pub print_step-requires : goal.print_step-requires
print_step-requires c = record {
  formed = c.requires.formed;
  goal_bound = (c.requires.goal_bound.0, sym c.word_in.ensures.0 ∙ c.in-17.is, c.requires.goal_bound.1);
}

pub returns-in-8 : goal.returns-in-8
returns-in-8 c = goes_comes _ _ _ _ _ _ _ _ _ (goes_same _ _ _ _ _ _ _ _ _ _ c.onward.ensures (literal_goes _ _ _ _ _ _ c.requires.goal_bound.1 _ _ c.word_in.ensures.0 (successor_as _ _ _ _ _ c.successor.ensures) _ c.in-8.is c.literal.ensures))

pub returns-in-9 : goal.returns-in-9
returns-in-9 c = goes_comes _ _ _ _ _ _ _ _ _ (c.sum_step.ensures _ _ _ _)

pub returns-in-10 : goal.returns-in-10
returns-in-10 c = goes_comes _ _ _ _ _ _ _ _ _ (goes_same _ _ _ _ _ _ _ _ _ _ c.onward-in-10.ensures (assign_goes _ _ _ _ _ _ c.requires.goal_bound.1 _ _ c.word_in.ensures.0 (successor_as _ _ _ _ _ c.successor-in-10.ensures) _ c.in-10.is c.assign.ensures))

pub returns-in-12 : goal.returns-in-12
returns-in-12 c = goes_comes _ _ _ _ _ _ _ _ _ (c.switch_step.ensures _ _ _)

pub returns-in-14 : goal.returns-in-14
returns-in-14 c = goes_comes _ _ _ _ _ _ _ _ _ (c.if_step.ensures _ _ _ _)

pub returns-in-15 : goal.returns-in-15
returns-in-15 c = goes_comes _ _ _ _ _ _ _ _ _ (c.call_step.ensures _ _)

pub returns-in-17 : goal.returns-in-17
returns-in-17 c = goes_comes _ _ _ _ _ _ _ _ _ (c.print_step.ensures _ _ _)

pub returns-in-20 : goal.returns-in-20
returns-in-20 c = try_comes _ _ _ _ _ _ _ c.word_in.ensures.0 c.in-20.is

pub returns-in_default : goal.returns-in_default
returns-in_default c =
    goes_comes _ _ _ _ _ _ _ _ _
    (else_goes _ _ _ _ _ _ c.requires.goal_bound.1 _ c.word_in.ensures.0 c.in_default.in_default-own.rest.0.0.0.0.0.0.0.1 c.in_default.in_default-own.rest.0.0.0.0.0.0.1 c.in_default.in_default-own.rest.0.0.0.0.0.1 (λ z. c.requires.changes.0 (sym c.word_in.ensures.0 ∙ z)) c.in_default.in_default-own.rest.0.0.0.0.1 c.in_default.in_default-own.rest.0.0.0.1 c.in_default.in_default-own.rest.0.0.1 c.in_default.in_default-own.rest.0.1
    (λ z. c.requires.changes.1 (sym c.word_in.ensures.0 ∙ z)) (λ z. c.requires.changes.2 (sym c.word_in.ensures.0 ∙ z)) c.in_default.in_default-own.rest.1)
