use Rattle.std.proofs.Common.{arith}
use mathlib.Core.Path.{refl}
use Rattle.chains.specs.Shapes.{to_arms}
use Rattle.frames.specs.Strays.{whole}
use Rattle.machine.proofs.CellsLaws.{whole_is, functor_cell, arm_as, values_cell, values_constant}
use Rattle.machine.proofs.Numbers.{arm_stands}
use Rattle.machine.proofs.arms.switch_arm.Goals as goal

pub word_in-requires : goal.word_in-requires
word_in-requires g c = (omega arith, (whole c.requires.formed _ c.requires.i_bound.0).1)

pub word_in-first-requires : goal.word_in-first-requires
word_in-first-requires g c = (omega arith, (whole c.requires.formed _ c.requires.i_bound.0).1)

pub bounds-cells-term : goal.bounds-cells-term
bounds-cells-term g c = let w = whole_is _ _ _ c.whole_cell.ensures c.if-whole_cell.true in omega (arith, w.1)

pub arm_of-j-requires : goal.arm_of-j-requires
arm_of-j-requires g c = record {
  formed = c.requires.formed;
  start_bound = (to_arms c.requires.formed c.requires.i_bound.1 c.word_in-first.ensures.0).stands.below;
}

pub arm_values-requires : goal.arm_values-requires
arm_values-requires g c = let F = c.requires.formed in record {
  record_bytes_in_bounds = ((whole F _ c.arm_of-j.ensures.upper_bound).1, c.requires.i_bound.2);
  low_if_any = c.requires.goal_x_bound.1 _ (rw c.arm_of-j.ensures.value (arm_stands F _ _ (to_arms F c.requires.i_bound.1 c.word_in-first.ensures.0).stands));
  whole = λ z. (whole_is _ _ _ c.whole_cell.ensures c.if-whole_cell.true).1;
}

pub returns-then-whole_cell : goal.returns-then-whole_cell
returns-then-whole_cell g c = let l = (whole_is _ _ _ c.whole_cell.ensures c.if-whole_cell.true).0 in record {
  value = arm_as _ _ _ _ _ _ _ c.value-term.ensures c.word_in.ensures.0 _ _ _ c.word_in-first.ensures.0 (functor_cell _ _ _ l refl) c.arm_of-j.ensures.value;
  upper_bound = c.arm_of-j.ensures.upper_bound;
  frames_after = values_cell _ _ _ _ _ _ _ c.value-term.ensures c.word_in.ensures.0 _ _ l c.arm_values.ensures;
}

pub arm_of-j-requires-2 : goal.arm_of-j-requires-2
arm_of-j-requires-2 g c = record {
  formed = c.requires.formed;
  start_bound = (to_arms c.requires.formed c.requires.i_bound.1 c.word_in-first.ensures.0).stands.below;
}

pub returns-then-term-ge-CONSTANTS : goal.returns-then-term-ge-CONSTANTS
returns-then-term-ge-CONSTANTS g c = record {
  value = arm_as _ _ _ _ _ _ _ c.value-term.ensures c.word_in.ensures.0 _ _ _ c.word_in-first.ensures.0 c.functor_of.ensures c.arm_of-j-2.ensures.value;
  upper_bound = c.arm_of-j-2.ensures.upper_bound;
  frames_after = values_constant _ _ _ _ _ _ _ c.value-term.ensures c.word_in.ensures.0 _ c.if-term-ge-CONSTANTS.true;
}

pub arm_values-requires-2 : goal.arm_values-requires-2
arm_values-requires-2 g c = let F = c.requires.formed in record {
  record_bytes_in_bounds = ((whole F _ c.arm_of-j-2.ensures.upper_bound).1, c.requires.i_bound.2);
  low_if_any = c.requires.goal_x_bound.1 _ (rw c.arm_of-j-2.ensures.value (arm_stands F _ _ (to_arms F c.requires.i_bound.1 c.word_in-first.ensures.0).stands));
  whole = λ z. cc;
}

pub returns : goal.returns
returns g c = record {
  value = arm_as _ _ _ _ _ _ _ c.value-term.ensures c.word_in.ensures.0 _ _ _ c.word_in-first.ensures.0 c.functor_of.ensures c.arm_of-j-2.ensures.value;
  upper_bound = c.arm_of-j-2.ensures.upper_bound;
  frames_after = values_cell _ _ _ _ _ _ _ c.value-term.ensures c.word_in.ensures.0 _ _ c.if-term-ge-CONSTANTS.false c.arm_values-2.ensures;
}
