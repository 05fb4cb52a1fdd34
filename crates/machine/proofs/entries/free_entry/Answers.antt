use Rattle.machine.specs.Entries.{is_freed, is_stays}
use Rattle.std.proofs.Common.{rules}
use Rattle.machine.proofs.entries.free_entry.Goals as goal

pub remove-requires : goal.remove-requires
remove-requires c = search rules

pub returns-then-kind-eq-ENTRY_REMOVED : goal.returns-then-kind-eq-ENTRY_REMOVED
returns-then-kind-eq-ENTRY_REMOVED c = is_freed _ _ _ _ _ c.if-kind-eq-ENTRY_REMOVED.true c.remove.ensures

pub returns : goal.returns
returns c = is_stays _ _ _ _ _ c.if-kind-eq-ENTRY_REMOVED.false
