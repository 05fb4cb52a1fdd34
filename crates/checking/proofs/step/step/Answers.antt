use mathlib.Core.Path.{refl}
use borrow.Author.Tests.{not-true}
use Rattle.checking.proofs.RulesLaws.{step_stops, step_goes}
use Rattle.std.proofs.Common.{rules}
use Rattle.checking.proofs.step.step.Goals as goal

pub returns-then-not-allowed : goal.returns-then-not-allowed
returns-then-not-allowed c = search (not-true, step_stops, rules)

pub returns : goal.returns
returns c = step_goes _ _ _ _ refl refl c.allowed.ensures _ c.if-not-allowed.false c.ends_at-ends.ensures c.difference.ensures c.bears_at.ensures c.union-after.ensures c.sound_without-still.ensures c.gives_at.ensures c.sound_given.ensures refl refl
