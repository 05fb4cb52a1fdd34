-- The words still to come are in the digits that are left: the invariant and its laws are in Giving.
use Rattle.std.proofs.Common.{arith, rules, ◌%◌, ap, ◌∙◌}
use Prim.Native.Nat.{◌<◌}
use lib.ListN.{length, length-set}
use Rattle.language.specs.File.{kind_of}
use Rattle.owners.specs.Handed.{part_digits}
use Rattle.owners.specs.Digits.{record_room, kind_low}
use Rattle.owners.proofs.Giving.{next_below, giving_first, giving_next, giving_last}
use Rattle.owners.proofs.pass.hand_to.Goals as goal

pub word_in-next-requires : goal.word_in-next-requires
word_in-next-requires g c = (omega arith, record_room c.requires.formed _ c.requires.i_bound.0)

pub offset_bounds-table-next : goal.offset_bounds-table-next
offset_bounds-table-next g c =
    let b : c.word_in-next.result < length c.args.table.now = omega (arith, next_below c.requires.formed c.requires.i_bound.0, c.word_in-next.ensures.0, c.requires.i_bound.1) in
    search rules

pub bounds-table-next : goal.bounds-table-next
bounds-table-next g c = omega (arith, next_below c.requires.formed c.requires.i_bound.0, c.word_in-next.ensures.0, c.requires.i_bound.1)

pub word_in-requires : goal.word_in-requires
word_in-requires g c = (omega arith, record_room c.requires.formed _ c.requires.i_bound.0)

pub part_digits-left-requires : goal.part_digits-left-requires
part_digits-left-requires g c = omega (arith, c.word_in.ensures.0, kind_low c.requires.formed _ c.requires.i_bound.0)

pub loop-left-init : goal.loop-left-init
loop-left-init g c =
    giving_first _ _ _ (goal.F-post g c.args.by) (c.part_digits-left.ensures ∙ ap (λ k. part_digits (kind_of k)) c.word_in.ensures.0)
    c.word_in-next.ensures.0 c.by.ensures

pub word_in-w-requires : goal.word_in-w-requires
word_in-w-requires g c =
    ((giving_next _ _ _ _ c.loop-left.invariant c.loop-left-test.true).small, record_room c.requires.formed _ c.requires.i_bound.0)

pub by-requires-in-loop-left : goal.by-requires-in-loop-left
by-requires-in-loop-left g c =
    let s = (giving_next _ _ _ _ c.loop-left.invariant c.loop-left-test.true).small in
    let m = c.requires.may_give (c.loop-left.left % 16) s in
    search rules

pub offset_bounds-table-w : goal.offset_bounds-table-w
offset_bounds-table-w g c =
    let n = (giving_next _ _ _ _ c.loop-left.invariant c.loop-left-test.true).names c.requires.formed c.requires.i_bound.0 in
    let b : c.word_in-w.result < length c.args.table.now = omega (arith, n, c.requires.i_bound.1, c.word_in-w.ensures.0) in
    search rules

pub bounds-table-w : goal.bounds-table-w
bounds-table-w g c =
    omega (arith, (giving_next _ _ _ _ c.loop-left.invariant c.loop-left-test.true).names c.requires.formed c.requires.i_bound.0, c.requires.i_bound.1, simp length-set at c.loop-left.auto.table, c.word_in-w.ensures.0)

pub loop-left-preserved : goal.loop-left-preserved
loop-left-preserved g c =
    (giving_next _ _ _ _ c.loop-left.invariant c.loop-left-test.true).after c.word_in-w.ensures.0 c.by-in-loop-left.ensures

pub returns : goal.returns
returns g c = giving_last _ _ _ _ c.loop-left.invariant c.loop-left-test.false
