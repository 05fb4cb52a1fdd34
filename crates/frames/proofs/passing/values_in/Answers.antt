-- What is still to be copied is what the links from the record reached on say.
use Prim.Native.Nat.{◌/◌, ◌<◌}
use Rattle.std.proofs.Common.{arith}
use mathlib.Core.Path.{refl}
use lib.ListN.{length-set}
use Rattle.language.specs.Format.{max_records}
use Rattle.word_machine.specs.Tables.{link_unit, slot_of, given_of}
use Rattle.frames.specs.Passing.{passed_in, along_first, along_next, along_last}
use Rattle.frames.proofs.passing.values_in.Goals as goal

pub loop-a-init : goal.loop-a-init
unfolding passed_in
loop-a-init c = (along_first _ _ _ _ _ c.requires.i_lt_max_records.0, refl)

pub returns-then-n-a : goal.returns-then-n-a
returns-then-n-a c = along_last _ _ _ _ _ _ _ c.loop-a.invariant.0 c.if-n-a.true

pub overflow_add-w-in-loop-a : goal.overflow_add-w-in-loop-a
overflow_add-w-in-loop-a c = omega (arith, c.loop-a.invariant.0.word, c.loop-a.invariant.0.here, (c.requires.links c.loop-a.a c.loop-a.invariant.0.here).next)

pub offset_bounds-plan-n : goal.offset_bounds-plan-n
offset_bounds-plan-n c = omega (arith, c.loop-a.invariant.0.word, c.loop-a.invariant.0.here, (c.requires.links c.loop-a.a c.loop-a.invariant.0.here).next)

pub bounds-plan-n : goal.bounds-plan-n
bounds-plan-n c = omega (arith, c.loop-a.invariant.0.word, c.loop-a.invariant.0.here, (c.requires.links c.loop-a.a c.loop-a.invariant.0.here).next)

pub overflow_add-frames : goal.overflow_add-frames
unfolding slot_of given_of
overflow_add-frames c =
    let P = c.requires.links in
    let q : c.loop-a.w / link_unit < max_records = omega (arith, c.loop-a.invariant.0.word, (P c.loop-a.a c.loop-a.invariant.0.here).next) in
    omega (arith, c.loop-a.invariant.1, (P (c.loop-a.w / link_unit) q).slot, (P (c.loop-a.w / link_unit) q).given)

pub bounds-frames-at : goal.bounds-frames-at
unfolding slot_of given_of
bounds-frames-at c =
    let P = c.requires.links in
    let q : c.loop-a.w / link_unit < max_records = omega (arith, c.loop-a.invariant.0.word, (P c.loop-a.a c.loop-a.invariant.0.here).next) in
    omega (arith, c.loop-a.invariant.1, (P (c.loop-a.w / link_unit) q).slot, (P (c.loop-a.w / link_unit) q).given)

pub overflow_add-frames-in-loop-a : goal.overflow_add-frames-in-loop-a
unfolding slot_of given_of
overflow_add-frames-in-loop-a c =
    let P = c.requires.links in
    let q : c.loop-a.w / link_unit < max_records = omega (arith, c.loop-a.invariant.0.word, (P c.loop-a.a c.loop-a.invariant.0.here).next) in
    omega (arith, c.loop-a.invariant.1, (P (c.loop-a.w / link_unit) q).slot, (P (c.loop-a.w / link_unit) q).given)

pub overflow_add-frames-in-loop-a-2 : goal.overflow_add-frames-in-loop-a-2
unfolding slot_of given_of
overflow_add-frames-in-loop-a-2 c =
    let P = c.requires.links in
    let q : c.loop-a.w / link_unit < max_records = omega (arith, c.loop-a.invariant.0.word, (P c.loop-a.a c.loop-a.invariant.0.here).next) in
    omega (arith, c.loop-a.invariant.1, (P (c.loop-a.w / link_unit) q).slot, (P (c.loop-a.w / link_unit) q).given)

pub bounds-frames-at-in-loop-a : goal.bounds-frames-at-in-loop-a
unfolding slot_of given_of
bounds-frames-at-in-loop-a c =
    let P = c.requires.links in
    let q : c.loop-a.w / link_unit < max_records = omega (arith, c.loop-a.invariant.0.word, (P c.loop-a.a c.loop-a.invariant.0.here).next) in
    omega (arith, c.loop-a.invariant.1, (P (c.loop-a.w / link_unit) q).slot, (P (c.loop-a.w / link_unit) q).given)

pub loop-a-smaller : goal.loop-a-smaller
loop-a-smaller c = omega (arith, c.loop-a.invariant.0.here, c.if-n-a.false)

pub loop-a-preserved : goal.loop-a-preserved
unfolding slot_of given_of
loop-a-preserved c =
    let P = c.requires.links in
    let q : c.loop-a.w / link_unit < max_records = omega (arith, c.loop-a.invariant.0.word, (P c.loop-a.a c.loop-a.invariant.0.here).next) in
    (along_next _ _ _ _ _ _ _ _ _ _ c.loop-a.invariant.0 refl (omega (arith, c.if-n-a.false)) q refl refl, simp length-set c.loop-a.invariant.1)
