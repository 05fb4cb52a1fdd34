-- The callee's window has the sets of its in and out variables.
use Rattle.std.proofs.Common.{arith}
use Rattle.accesses.specs.Fitting.{window_fits}
use Rattle.accesses.proofs.FittingLaws.{call_none, callee_declares, callee_accesses}
use Rattle.accesses.proofs.calls.called_access.Goals as goal

pub returns-then-q-procedures : goal.returns-then-q-procedures
returns-then-q-procedures c = call_none _ _ _ (rw c.requires.procedures_value at c.if-q-procedures.true) c.no_access.ensures

pub overflow_add-window : goal.overflow_add-window
overflow_add-window c =
    omega (arith, window_fits c.requires.file_table (omega (arith, c.requires.procedures_value, c.if-q-procedures.false)) c.word_at-window.ensures)

pub overflow_add-window-2 : goal.overflow_add-window-2
overflow_add-window-2 c =
    omega (arith, window_fits c.requires.file_table (omega (arith, c.requires.procedures_value, c.if-q-procedures.false)) c.word_at-window.ensures)

pub returns : goal.returns
returns c =
    let D = callee_declares c.requires.file_table (omega (arith, c.requires.procedures_value, c.if-q-procedures.false)) c.word_at-window.ensures c.requires.file_value c.set_at-ins.ensures c.set_at-outs.ensures in
    callee_accesses c.requires.file_table (omega (arith, c.requires.procedures_value, c.if-q-procedures.false)) c.word_at-window.ensures (c.match_arguments.ensures _ D)
