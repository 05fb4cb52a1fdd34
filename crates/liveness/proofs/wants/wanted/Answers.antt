-- A walk over the members.
use Prim.Native.Nat.{◌<◌}
use Rattle.std.proofs.Common.{arith}
use mathlib.Core.Path.{ap₂, ◌∙◌}
use Rattle.sets.specs.Sets.{◌∪◌}
use Rattle.sets.specs.Lowest.{taken_in}
use Rattle.sets.specs.Gathering.{gathered_first, gathered_more, gathered_last}
use Rattle.language.specs.Format.{places}
use Rattle.liveness.specs.Wants.{wanted_in}
use Rattle.liveness.proofs.WantsLaws.{reached_some}
use Rattle.liveness.proofs.wants.wanted.Goals as goal

pub loop-x-init : goal.loop-x-init
loop-x-init c = gathered_first _ _ (rw c.into_iter-x-iterator.ensures.into_iter_gives c.members-x-items.ensures)

pub bounds-wants-x : goal.bounds-wants-x
bounds-wants-x c = let m = taken_in _ _ _ c.in-Some.ensures.steps in omega (arith, m.2)

pub offset_bounds-wants-x : goal.offset_bounds-wants-x
offset_bounds-wants-x c = let m = taken_in _ _ _ c.in-Some.ensures.steps in omega (arith, m.2)

pub loop-x-preserved : goal.loop-x-preserved
loop-x-preserved c =
    let m = taken_in _ _ _ c.in-Some.ensures.steps in
    let l : c.in-Some.x < places = omega (arith, m.2) in
    gathered_more _ _ c.loop-x.invariant c.in-Some.ensures.steps (reached_some _ l c.loaded.ensures) c.union-found.ensures

pub returns : goal.returns
unfolding wanted_in
returns c = c.union.ensures ∙ ap₂ ◌∪◌ c.loaded-2.ensures (gathered_last _ _ c.loop-x.invariant c.in-None.ensures.steps.0)
