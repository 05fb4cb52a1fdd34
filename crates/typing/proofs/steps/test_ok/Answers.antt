use Rattle.typing.proofs.StepsLaws.{test_first, test_both}
use Rattle.std.proofs.Common.{rules}
use Rattle.typing.proofs.steps.test_ok.Goals as goal

pub is_number-requires : goal.is_number-requires
is_number-requires c = search rules

pub returns-then-not-is_number : goal.returns-then-not-is_number
returns-then-not-is_number c = test_first c.requires.formed.0 _ _ c.requires.test.0 c.is_number.ensures c.if-not-is_number.true

pub is_number-requires-2 : goal.is_number-requires-2
is_number-requires-2 c = search rules

pub returns : goal.returns
returns c = test_both c.requires.formed.0 _ _ c.requires.test.0 c.is_number.ensures c.if-not-is_number.false c.is_number-2.ensures
