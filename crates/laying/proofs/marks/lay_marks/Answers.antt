-- A loop over the members.
use Prim.Native.Nat.{◌<◌}
use Rattle.std.proofs.Common.{rules, arith}
use Rattle.records.specs.Sizes.{word_end}
use Rattle.sets.specs.Lowest.{taken_in}
use Rattle.laying.proofs.MarksLaws.{marking_first, marking_last, marking_next}
use Rattle.laying.proofs.marks.lay_marks.Goals as goal

pub loop-r-init : goal.loop-r-init
loop-r-init c =
    marking_first _ _ _ _ _ (rw c.into_iter-r-iterator.ensures.into_iter_gives c.members-r-items.ensures)

pub store-requires : goal.store-requires
store-requires c =
    let m = taken_in _ _ _ c.in-Some.ensures.steps in
    let r : c.in-Some.r < word_end = omega (arith, m.2) in
    search rules

pub loop-r-preserved : goal.loop-r-preserved
loop-r-preserved c =
    marking_next c.loop-r.invariant c.in-Some.ensures.steps c.after-next.ensures c.more.ensures.value c.more.ensures.value_2 c.behind-end.ensures c.refer-w.ensures c.store.ensures

pub shape_of-out : goal.shape_of-out
shape_of-out c =
    c.loop-r.invariant.same

pub returns : goal.returns
returns c =
    marking_last c.loop-r.invariant c.in-None.ensures.steps.0
