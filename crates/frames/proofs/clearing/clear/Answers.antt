use Rattle.frames.specs.Laws.{few_cleared, some_cleared, all_cleared}
use Rattle.frames.proofs.clearing.clear.Goals as goal

pub returns-then-n-lt9 : goal.returns-then-n-lt9
returns-then-n-lt9 c = few_cleared _ _ _ _ c.if-n-lt9.true c.clear_words.ensures

pub returns-then-n-lt17 : goal.returns-then-n-lt17
returns-then-n-lt17 c = some_cleared _ _ _ _ c.if-n-lt9.false c.if-n-lt17.true c.clear_words-then-n-lt17.ensures

pub returns : goal.returns
returns c = all_cleared _ _ _ _ c.if-n-lt17.false c.clear_words-2.ensures
