use mathlib.Core.Path.{refl}
use Rattle.frames.specs.Strays.{whole}
use Rattle.machine.specs.Calls.{successor_as}
use Rattle.machine.proofs.Numbers.{test_low}
use Rattle.machine.proofs.TryingLaws.{test_in, test_fails_in}
use Rattle.machine.proofs.opened.test_in.Goals as goal

pub passes-requires : goal.passes-requires
passes-requires c = record {
  record_bytes_in_bounds = ((whole c.requires.formed.0 _ c.requires.goal_bound.0).1, c.requires.goal_bound.2.fits);
  test_y_bound = test_low c.requires.formed.1 _ refl c.requires.goal_bound.1;
}

pub successor-requires : goal.successor-requires
successor-requires c = (whole c.requires.formed.0 _ c.requires.goal_bound.0).0

pub returns-then-passes : goal.returns-then-passes
returns-then-passes c = λ images callees m rs log. test_in _ _ _ _ _ _ _ _ _ _ _ c.requires.goal_bound.2.place _ refl c.requires.goal_bound.1 _ c.passes.ensures c.if-passes.true _ (successor_as _ _ _ _ _ c.successor.ensures)

pub returns : goal.returns
returns c = λ images callees m rs log. test_fails_in _ _ _ _ _ _ _ _ _ _ _ c.requires.goal_bound.2.place _ refl c.requires.goal_bound.1 _ c.passes.ensures c.if-passes.false
