-- The images of regions below r are copied.
use Prim.Native.Nat.{◌+◌, ◌-◌}
use mathlib.Core.Path.{◌≡◌}
use Rattle.std.proofs.Common.{arith}
use lib.ListN.{get_or}
use Rattle.plans.specs.Turns.{copied_more, copied_none, copied_last}
use Rattle.plans.proofs.images.copy_images.Goals as goal

pub loop-r-init : goal.loop-r-init
loop-r-init c = (omega arith, omega arith, copied_none _ _ _)

pub overflow_cast-images : goal.overflow_cast-images
overflow_cast-images c = record { fits = omega (arith, c.requires.by_index c.loop-r.r) }

pub loop-r-preserved : goal.loop-r-preserved
loop-r-preserved c =
    let e : c.loop-r.r - 1 + 1 ≡ c.loop-r.r = omega arith in
    let d : c.loop-r.r + 1 - 1 ≡ c.loop-r.r = omega arith in
    (omega arith, omega arith, rw d (rw e at (copied_more (λ q. get_or c.args.found.now q 0) _ _ _ c.loop-r.invariant.2)))

pub returns : goal.returns
returns c = copied_last _ _ _ _ _ c.loop-r.invariant.2 (omega arith) (omega arith)

pub returns-2 : goal.returns-2
returns-2 c =
    let e : c.loop-r.r - 1 + 1 ≡ c.loop-r.r = omega arith in
    copied_last _ _ _ _ _ (rw e at (copied_more (λ q. get_or c.args.found.now q 0) _ _ _ c.loop-r.invariant.2)) (omega arith) (omega arith)
