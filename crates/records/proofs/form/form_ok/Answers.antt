-- Every record in order, and each counted once from nothing. Assumes nothing.
use Rattle.std.proofs.Common.{arith, refl}
use mathlib.Core.Path.{◌∙◌}
use Rattle.records.proofs.Loops.{form_refused, form_counted}
use Rattle.records.proofs.form.form_ok.Goals as goal

pub returns-then-not-records_ok : goal.returns-then-not-records_ok
returns-then-not-records_ok c = form_refused _ _ c.records_ok.ensures c.if-not-records_ok.true

pub returns : goal.returns
returns c =
    c.all_once.ensures
    ∙ form_counted _ _ c.records_ok.ensures c.if-not-records_ok.false refl (omega arith)
