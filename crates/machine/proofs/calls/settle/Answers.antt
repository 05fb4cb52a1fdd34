-- What is returned from so far and the returns still to come make the whole.
use Prim.Native.Nat.{◌-◌}
use Rattle.std.proofs.Common.{arith, rules}
use mathlib.Core.Path.{refl, ap, ◌∙◌}
use lib.ListN.{length}
use Rattle.machine.proofs.CallsLaws.{settle_first, settle_entry, settle_goal, settle_return}
use Rattle.word_machine.specs.Copies.{return_length}
use Rattle.machine.proofs.calls.settle.Goals as goal

pub loop-goal-init : goal.loop-goal-init
loop-goal-init c = ((λ h m rs ps. settle_first _ _ h m rs ps _ _ _ _ _), refl, c.requires.formed.1.place, c.requires.formed.1.fits)

pub shape_of-frames-then-at-eq0 : goal.shape_of-frames-then-at-eq0
shape_of-frames-then-at-eq0 c = c.loop-goal.invariant.1

pub returns-then-at-eq0 : goal.returns-then-at-eq0
returns-then-at-eq0 c = let l = c.loop-goal.invariant in record {
  result_after = (λ h m rs ps. settle_entry _ _ h m rs ps _ _ _ _ _ (omega (arith, c.if-at-eq0.true, l.2)) ∙ l.0 h m rs ps);
  frame_placed = record { place = l.2; fits = l.3 };
}

pub overflow_sub-top : goal.overflow_sub-top
overflow_sub-top c = let l = c.loop-goal.invariant.2 in let z = c.if-at-eq0.false in search rules

pub overflow_sub-at : goal.overflow_sub-at
overflow_sub-at c = let l = c.loop-goal.invariant.2 in let z = c.if-at-eq0.false in search rules

pub offset_bounds-frames-at : goal.offset_bounds-frames-at
offset_bounds-frames-at c = let l = c.loop-goal.invariant.3 in search rules

pub bounds-frames-at : goal.bounds-frames-at
bounds-frames-at c = let l = c.loop-goal.invariant.3 in search rules

pub give_back-requires : goal.give_back-requires
give_back-requires c = let l = c.loop-goal.invariant in let z = c.if-at-eq0.false in record {
  formed = c.requires.formed.0;
  narrow = (c.requires.narrow, omega (arith, l.2, l.3, z));
}

pub loop-goal-smaller : goal.loop-goal-smaller
loop-goal-smaller c = omega (arith, c.if-at-eq0.false, c.loop-goal.invariant.2)

pub loop-goal-preserved : goal.loop-goal-preserved
loop-goal-preserved c =
    let z = c.if-at-eq0.false in
    let g = c.give_back.ensures (c.loop-goal.top - 1) (omega (arith, z, c.loop-goal.invariant.2)) in (
      (λ h m rs ps. settle_return _ _ h m rs ps _ _ _ _ _ _ _ c.loop-goal.frames _ (omega (arith, z, c.loop-goal.invariant.2)) c.loop-goal-test.true (omega (arith, z, c.loop-goal.invariant.2)) c.wide-goal.ensures g ∙ c.loop-goal.invariant.0 h m rs ps),
      ap length g ∙ return_length _ _ _ _ c.loop-goal.frames ∙ c.loop-goal.invariant.1,
      omega (arith, z, c.loop-goal.invariant.2),
      omega (arith, z, c.loop-goal.invariant.2, c.loop-goal.invariant.3, ap length g ∙ return_length _ _ _ _ c.loop-goal.frames),
    )

pub shape_of-frames : goal.shape_of-frames
shape_of-frames c = c.loop-goal.invariant.1

pub returns : goal.returns
returns c = let l = c.loop-goal.invariant in record {
  result_after = (λ h m rs ps. settle_goal _ _ h m rs ps _ _ _ _ _ c.loop-goal-test.false ∙ l.0 h m rs ps);
  frame_placed = record { place = l.2; fits = l.3 };
}
