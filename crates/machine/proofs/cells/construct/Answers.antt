use Rattle.machine.proofs.CellsLaws.{construct_none, construct_made}
use Rattle.std.proofs.Common.{rules}
use Rattle.machine.proofs.cells.construct.Goals as goal

pub make_term-requires : goal.make_term-requires
make_term-requires g c = search rules

pub returns-in_err-term : goal.returns-in_err-term
returns-in_err-term g c = rw c.from_residual.ensures (construct_none _ _ _ _ _ _ _ _ _ _ _ c.make_term.ensures c.in_err-term.was)

pub returns : goal.returns
returns g c = construct_made _ _ _ _ _ _ _ _ _ _ _ c.make_term.ensures _ _ c.in_ok-term.was _ _ c.word_in.ensures.0 c.give.ensures
