use mathlib.Core.Path.{refl}
use Rattle.tables.specs.Rows.{bit_of}
use Rattle.tables.proofs.rows.bit_of.Goals as goal

pub returns-then-b : goal.returns-then-b
unfolding bit_of
returns-then-b c = rw c.if-b.true refl

pub returns-else-b : goal.returns-else-b
unfolding bit_of
returns-else-b c = rw c.if-b.false refl
