use Rattle.typing.proofs.StepsLaws.{sum_first, sum_operation_law, sum_second, sum_all}
use Rattle.std.proofs.Common.{rules}
use Rattle.typing.proofs.steps.sum_ok.Goals as goal

pub is_number-requires : goal.is_number-requires
is_number-requires c = search rules

pub returns-then-not-is_number : goal.returns-then-not-is_number
returns-then-not-is_number c = sum_first c.requires.formed.0 _ _ c.requires.sum.0 c.is_number.ensures c.if-not-is_number.true

pub word-requires : goal.word-requires
word-requires c = search rules

pub returns-then-word-gt1 : goal.returns-then-word-gt1
returns-then-word-gt1 c = sum_operation_law c.requires.formed.0 _ _ c.requires.sum.0 c.is_number.ensures c.if-not-is_number.false c.word.ensures.0 c.if-word-gt1.true

pub is_number-requires-2 : goal.is_number-requires-2
is_number-requires-2 c = search rules

pub returns-then-not-is_number-2 : goal.returns-then-not-is_number-2
returns-then-not-is_number-2 c = sum_second c.requires.formed.0 _ _ c.requires.sum.0 c.is_number.ensures c.if-not-is_number.false c.word.ensures.0 c.if-word-gt1.false c.is_number-2.ensures c.if-not-is_number-2.true

pub is_number-requires-3 : goal.is_number-requires-3
is_number-requires-3 c = search rules

pub returns : goal.returns
returns c = sum_all c.requires.formed.0 _ _ c.requires.sum.0 c.is_number.ensures c.if-not-is_number.false c.word.ensures.0 c.if-word-gt1.false c.is_number-2.ensures c.if-not-is_number-2.false c.is_number-3.ensures
