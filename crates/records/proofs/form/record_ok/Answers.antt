-- The unused words, then the references. Assumes nothing.
use Rattle.std.proofs.Common.{rules}
use Rattle.records.proofs.Loops.{record_spare, record_refers}
use Rattle.records.proofs.form.record_ok.Goals as goal

pub spare_ok-requires : goal.spare_ok-requires
spare_ok-requires c = search rules

pub returns-else-spare_ok : goal.returns-else-spare_ok
returns-else-spare_ok c = rw c.if-spare_ok.false (record_spare _ _ _ c.spare_ok.ensures _ c.if-spare_ok.false)

pub refers_ok-requires : goal.refers_ok-requires
refers_ok-requires c = search rules

pub returns-then-spare_ok : goal.returns-then-spare_ok
returns-then-spare_ok c =
    record_refers _ _ _ c.spare_ok.ensures c.if-spare_ok.true c.refers_ok.ensures
