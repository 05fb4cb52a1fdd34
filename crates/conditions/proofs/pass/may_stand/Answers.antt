use mathlib.Core.Path.{refl}
use Rattle.sets.specs.Tests.{neg, ◌or◌}
use Rattle.conditions.specs.Standing.{may_stand}
use Rattle.conditions.proofs.PassLaws.{bars, lets, outside}
use Rattle.conditions.proofs.pass.may_stand.Goals as goal

pub returns-in-14 : goal.returns-in-14
unfolding may_stand neg ◌or◌
returns-in-14 c = bars _ _ c.if-inside-eq1.true (rw c.in-14.is refl)

pub returns-in-15 : goal.returns-in-15
unfolding may_stand neg ◌or◌
returns-in-15 c = bars _ _ c.if-inside-eq1.true (rw c.in-15.is refl)

pub returns-in-17 : goal.returns-in-17
unfolding may_stand neg ◌or◌
returns-in-17 c = bars _ _ c.if-inside-eq1.true (rw c.in-17.is refl)

pub returns-in-20 : goal.returns-in-20
unfolding may_stand neg ◌or◌
returns-in-20 c = bars _ _ c.if-inside-eq1.true (rw c.in-20.is refl)

pub returns-in_default : goal.returns-in_default
returns-in_default c = let r = c.in_default.in_default-own.rest in lets _ _ c.if-inside-eq1.true r.0.0.0.1 r.0.0.1 r.0.1 r.1

pub returns-else-inside-eq1 : goal.returns-else-inside-eq1
unfolding neg
returns-else-inside-eq1 c = outside _ _ c.if-inside-eq1.false
