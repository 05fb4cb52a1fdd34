use Rattle.std.proofs.Common.{arith}
use mathlib.Core.Path.{refl}
use Rattle.plans.specs.Ways.{links_low, first_behind, first_here}
use Rattle.plans.proofs.joining.first_in.Goals as goal

pub overflow_add-link : goal.overflow_add-link
overflow_add-link c =
    let l = links_low c.args.mode c.args.a c.requires in
    omega (arith, l, c.links_from.ensures)

pub offset_bounds-plan-links_from : goal.offset_bounds-plan-links_from
offset_bounds-plan-links_from c =
    let l = links_low c.args.mode c.args.a c.requires in
    record { fits = omega (arith, l, c.links_from.ensures) }

pub bounds-plan-links_from : goal.bounds-plan-links_from
bounds-plan-links_from c =
    let l = links_low c.args.mode c.args.a c.requires in
    omega (arith, l, c.links_from.ensures)

pub returns-then-link-eq0 : goal.returns-then-link-eq0
returns-then-link-eq0 c = first_behind _ _ _ c.links_from.ensures refl c.if-link-eq0.true

pub returns-else-link-eq0 : goal.returns-else-link-eq0
returns-else-link-eq0 c = first_here _ _ _ c.links_from.ensures refl c.if-link-eq0.false
