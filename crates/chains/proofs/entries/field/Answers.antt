use mathlib.Core.Path.{◌∙◌}
use Rattle.chains.specs.Fields.{field_none, field_some}
use Rattle.chains.proofs.entries.field.Goals as goal

pub returns-then-i-eq0 : goal.returns-then-i-eq0
returns-then-i-eq0 c = let a = c.args in field_none a.file.now a.k c.if-i-eq0.true

pub returns-else-i-eq0 : goal.returns-else-i-eq0
returns-else-i-eq0 c = let a = c.args in c.word.ensures.0 ∙ field_some a.file.now a.i a.k c.if-i-eq0.false
