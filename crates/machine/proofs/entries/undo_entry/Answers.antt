use Rattle.machine.specs.Entries.{is_unbuilt, is_unmade, is_kept}
use Rattle.std.proofs.Common.{rules}
use Rattle.machine.proofs.entries.undo_entry.Goals as goal

pub take_back-requires : goal.take_back-requires
take_back-requires c = search rules

pub returns-then-kind-eq-ENTRY_BUILT : goal.returns-then-kind-eq-ENTRY_BUILT
returns-then-kind-eq-ENTRY_BUILT c = is_unbuilt _ _ _ _ _ c.if-kind-eq-ENTRY_BUILT.true c.take_back.ensures

pub remove-requires : goal.remove-requires
remove-requires c = search rules

pub returns-then-kind-eq-ENTRY_MADE : goal.returns-then-kind-eq-ENTRY_MADE
returns-then-kind-eq-ENTRY_MADE c = is_unmade _ _ _ _ _ c.if-kind-eq-ENTRY_MADE.true c.remove.ensures

pub returns : goal.returns
returns c = is_kept _ _ _ _ _ c.if-kind-eq-ENTRY_BUILT.false c.if-kind-eq-ENTRY_MADE.false
