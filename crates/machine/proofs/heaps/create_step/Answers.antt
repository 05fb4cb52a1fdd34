use Rattle.std.proofs.lemmas.Result.{err_from_is_err_and}
use Rattle.machine.proofs.Numbers.{create_low}
use mathlib.Core.Path.{refl}
use Rattle.machine.proofs.HeapsLaws.{lacked, create_changes, create_lacks}
use Rattle.frames.specs.Strays.{whole}
use Rattle.machine.proofs.heaps.create_step.Goals as goal

pub make_region-made-requires : goal.make_region-made-requires
make_region-made-requires c = record {
  record_bytes_in_bounds = ((whole c.requires.formed.0 _ c.requires.goal_bound.0).1, c.requires.goal_bound.2.fits);
  lifetime_region_bound = create_low c.requires.formed.1 _ refl c.requires.goal_bound.1;
}

pub returns-in_err-left : goal.returns-in_err-left
returns-in_err-left c =
    let p = err_from_is_err_and c.from_residual.result c.from_residual.ensures.1 in
    let n = lacked _ _ _ _ c.ok_or.ensures.value c.in_err-left.was in
    rw (p.1, p.2, ← n.1) (λ images callees m. create_lacks _ _ _ _ _ _ _ _ _ c.requires.goal_bound.2.place _ refl _ _ _ c.requires.goal_bound.1 c.make_region-made.ensures.value c.make_region-made.ensures.regions_after c.make_region-made.ensures.frames_after
    n.0)

pub returns : goal.returns
returns c =
    λ images callees m. create_changes _ _ _ _ _ _ _ _ _ c.requires.goal_bound.2.place _ refl _ _ _ c.requires.goal_bound.1 c.make_region-made.ensures.value c.make_region-made.ensures.regions_after c.make_region-made.ensures.frames_after _ _
    (rw c.in_ok-left.was at c.ok_or.ensures.ok_part)
