-- The variables are gone through one by one.
use Prim.Native.Nat.{◌<◌}
use Rattle.std.proofs.Common.{arith}
use mathlib.Core.Path.{sym, ◌∙◌}
use Rattle.sets.specs.Lowest.{taken_in}
use Rattle.language.specs.Format.{places}
use Rattle.checking.proofs.SoundLaws.{keep_first, keep_one, keep_none, keep_last}
use Rattle.checking.proofs.sound.kept.Goals as goal

pub loop-x-init : goal.loop-x-init
loop-x-init g c = λ p h. keep_first _ _ (rw c.into_iter-x-iterator.ensures.into_iter_gives c.members-x-items.ensures)

pub loop-x-preserved-then-passes : goal.loop-x-preserved-then-passes
loop-x-preserved-then-passes g c = λ p h.
    let s = c.in-Some.ensures.steps in
    let m = taken_in _ _ _ s in
    let l : c.in-Some.x < places = omega (arith, m.2) in
    keep_one _ _ (c.loop-x.invariant p h) s (sym (h _ _ l c.passes.ensures) ∙ c.if-passes.true) c.of.ensures c.union-found.ensures

pub loop-x-preserved : goal.loop-x-preserved
loop-x-preserved g c = λ p h.
    let s = c.in-Some.ensures.steps in
    let m = taken_in _ _ _ s in
    let l : c.in-Some.x < places = omega (arith, m.2) in
    keep_none _ _ (c.loop-x.invariant p h) s (sym (h _ _ l c.passes.ensures) ∙ c.if-passes.false)

pub returns : goal.returns
returns g c = λ p h. keep_last _ _ (c.loop-x.invariant p h) c.in-None.ensures.steps.0
