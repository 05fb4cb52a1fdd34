use mathlib.Core.Path.{sym, ap, ◌∙◌}
use lib.ListN.{set}
use Rattle.records.proofs.ListsLaws.{counted_none, counted_some}
use Rattle.records.proofs.form.count.Goals as goal

pub returns-then-r-eq0 : goal.returns-then-r-eq0
returns-then-r-eq0 c = sym (counted_none c.args.seen.now c.if-r-eq0.true)

pub returns : goal.returns
returns c =
    let a = c.args in
    ap (set a.seen.now a.r) c.one_more.ensures ∙ sym (counted_some a.seen.now a.r c.if-r-eq0.false)
