use Rattle.checking.proofs.ProceduresLaws.{start_low, body_stands, procedure_checked}
use Rattle.std.proofs.Common.{rules}
use Rattle.checking.proofs.procedures.procedure_ok.Goals as goal

pub offset_bounds-table-start : goal.offset_bounds-table-start
offset_bounds-table-start c = let l = start_low c.requires.prepared _ c.requires.q_in_bounds c.word_at-start.ensures in search rules

pub slice_bounds-window_ok-count : goal.slice_bounds-window_ok-count
slice_bounds-window_ok-count c = search (start_low, rules)

pub slice_bounds-window_ok-start : goal.slice_bounds-window_ok-start
slice_bounds-window_ok-start c = search (start_low, rules)

pub window_ok-requires : goal.window_ok-requires
window_ok-requires c = search (body_stands, rules)

pub returns : goal.returns
returns c = search (procedure_checked, rules)
