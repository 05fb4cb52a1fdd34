use mathlib.Core.Path.{refl}
use Rattle.tables.specs.Window.{number_none, number_past, number_some}
use Rattle.tables.proofs.window.is_number.Goals as goal

pub returns-then-x-lt1 : goal.returns-then-x-lt1
returns-then-x-lt1 c = number_none _ _ c.if-x-lt1.true

pub returns-then-x-ge-PLACES : goal.returns-then-x-ge-PLACES
returns-then-x-ge-PLACES c = number_past _ _ c.if-x-lt1.false c.if-x-ge-PLACES.true

pub returns : goal.returns
returns c = number_some _ _ c.if-x-lt1.false c.if-x-ge-PLACES.false refl
