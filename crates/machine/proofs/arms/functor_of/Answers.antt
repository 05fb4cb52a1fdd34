use Rattle.machine.proofs.CellsLaws.{functor_cell, functor_constant}
use Rattle.machine.proofs.arms.functor_of.Goals as goal

pub returns-then-term-lt-CONSTANTS : goal.returns-then-term-lt-CONSTANTS
returns-then-term-lt-CONSTANTS c = functor_cell _ _ _ c.if-term-lt-CONSTANTS.true c.word.ensures

pub returns : goal.returns
returns c = functor_constant _ _ c.if-term-lt-CONSTANTS.false
