use Rattle.profiling.specs.Kinds.{count_constant, count_construct, count_create, count_same}
use Rattle.profiling.proofs.counting.count_made.Goals as goal

pub returns-then-word-eq0 : goal.returns-then-word-eq0
returns-then-word-eq0 c = count_constant _ _ _ _ c.word.ensures.0 c.in-11.is _ c.word-in-11.ensures.0 c.if-word-eq0.true

pub returns-else-word-eq0 : goal.returns-else-word-eq0
returns-else-word-eq0 c = count_construct _ _ _ _ c.word.ensures.0 c.in-11.is _ c.word-in-11.ensures.0 c.if-word-eq0.false

pub returns-in-18 : goal.returns-in-18
returns-in-18 c = count_create _ _ _ _ c.word.ensures.0 c.in-18.is

pub returns-in_default : goal.returns-in_default
returns-in_default c = count_same _ _ _ _ c.word.ensures.0 (λ z. c.in_default.in_default-own.rest.0.1 z) (λ z. c.in_default.in_default-own.rest.1 z)
