-- Invariant: the records still ahead decide. Assumes nothing.
use Rattle.std.proofs.Common.{arith, rules}
use mathlib.Core.Path.{◌∙◌}
use Rattle.records.proofs.Loops.{records_first, records_next, records_refused, records_last}
use Rattle.records.proofs.form.records_ok.Goals as goal

pub loop-i-init : goal.loop-i-init
loop-i-init c = records_first _ _ _

pub record_ok-requires : goal.record_ok-requires
record_ok-requires c = search rules

pub shape_of-seen-then-not-record_ok : goal.shape_of-seen-then-not-record_ok
shape_of-seen-then-not-record_ok c = c.record_ok.auto.seen ∙ c.loop-i.invariant.same

pub returns-then-not-record_ok : goal.returns-then-not-record_ok
returns-then-not-record_ok c =
    records_refused _ _ c.loop-i.invariant (omega arith) c.record_ok.ensures c.if-not-record_ok.true

pub loop-i-preserved : goal.loop-i-preserved
loop-i-preserved c =
    records_next _ _ c.loop-i.invariant (omega arith) c.record_ok.ensures c.if-not-record_ok.false c.record_ok.auto.seen

pub shape_of-seen : goal.shape_of-seen
shape_of-seen c = c.loop-i.invariant.same

pub returns : goal.returns
returns c = records_last _ _ c.loop-i.invariant (omega arith)
