use Rattle.profiling.specs.Kinds.{count_remove, count_kept}
use Rattle.profiling.proofs.counting.count.Goals as goal

pub returns-then-word-ne-REMOVE : goal.returns-then-word-ne-REMOVE
returns-then-word-ne-REMOVE c h ps e = count_kept _ _ _ _ _ _ _ c.word.ensures.0 h ps c.if-word-ne-REMOVE.true c.count_made.ensures

pub returns : goal.returns
returns c h ps e =
    count_remove _ _ _ _ _ _ _ c.word.ensures.0 h ps c.if-word-ne-REMOVE.false _ _ _ _ _ _ e c.word-2.ensures.0 c.region_place-place.ensures
    c.region_size-size.ensures c.less.ensures c.less-2.ensures
