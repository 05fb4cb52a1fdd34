use Rattle.std.proofs.Common.{arith, rules}
use Rattle.typing.proofs.ArgumentsLaws.{argument_in, argument_past}
use Rattle.typing.proofs.constructs.argument_ok.Goals as goal

pub word-a-requires : goal.word-a-requires
word-a-requires c = search rules

pub word-requires : goal.word-requires
word-requires c = search rules

pub word-requires-then-k-word : goal.word-requires-then-k-word
word-requires-then-k-word c = search rules

pub has_type-requires : goal.has_type-requires
has_type-requires c = search rules

pub returns-then-k-word : goal.returns-then-k-word
returns-then-k-word c = argument_in _ _ _ _ c.word-a.ensures.0 (omega (arith, c.if-k-word.true, c.word.ensures.0)) c.word-then-k-word.ensures.0 c.has_type.ensures

pub returns : goal.returns
returns c = argument_past _ _ _ _ c.word-a.ensures.0 (omega (arith, c.if-k-word.false, c.word.ensures.0))
