use mathlib.Core.Path.{sym}
use Rattle.memory.specs.Laws.{take_full, take_top, take_link}
use Rattle.memory.proofs.pools.take.Goals as goal

pub returns-then-limit-head : goal.returns-then-limit-head
returns-then-limit-head c = sym (take_full _ _ c.if-limit-head.true)

pub returns-then-head-top : goal.returns-then-head-top
returns-then-head-top c = sym (take_top _ _ c.if-limit-head.false c.if-head-top.true)

pub returns : goal.returns
returns c = sym (take_link _ _ c.if-limit-head.false c.if-head-top.false)
