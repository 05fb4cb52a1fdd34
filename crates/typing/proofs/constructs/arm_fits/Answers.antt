use Rattle.typing.proofs.ArgumentsLaws.{arm_none, arm_order, arm_all}
use Rattle.std.proofs.Common.{rules}
use Rattle.typing.proofs.constructs.arm_fits.Goals as goal

pub returns-then-g-eq0 : goal.returns-then-g-eq0
returns-then-g-eq0 c = arm_none _ _ _ _ _ c.if-g-eq0.true

pub word-requires : goal.word-requires
word-requires c = search rules

pub returns-then-word-n : goal.returns-then-word-n
returns-then-word-n c = arm_order _ _ _ _ _ c.if-g-eq0.false c.word.ensures.0 c.if-word-n.true

pub arguments_ok-requires : goal.arguments_ok-requires
arguments_ok-requires c = search rules

pub returns : goal.returns
returns c = arm_all _ _ _ _ _ c.if-g-eq0.false c.word.ensures.0 c.if-word-n.false c.arguments_ok.ensures
