use Rattle.std.proofs.lemmas.Result.{err_from_is_err_and}
use Rattle.std.proofs.Common.{arith, rules}
use mathlib.Core.Path.{refl}
use Rattle.frames.specs.Strays.{whole}
use Rattle.machine.specs.Calls.{successor_as}
use Rattle.machine.proofs.Numbers.{create_low}
use Rattle.machine.proofs.HeapsLaws.{lacked, create_changes, create_lacks}
use Rattle.machine.proofs.LimitsLaws.{created_limits}
use Rattle.machine.proofs.TryingLaws.{create_in, create_lacks_in}
use Rattle.machine.proofs.opened.create_in.Goals as goal

pub make_region-made-requires : goal.make_region-made-requires
make_region-made-requires c = record {
  record_bytes_in_bounds = ((whole c.requires.formed.0 _ c.requires.goal_bound.0).1, c.requires.goal_bound.2.fits);
  lifetime_region_bound = create_low c.requires.formed.1 _ refl c.requires.goal_bound.1;
}

pub returns-in_err-place : goal.returns-in_err-place
returns-in_err-place c =
    let p = err_from_is_err_and c.from_residual.result c.from_residual.ensures.1 in
    let n = lacked _ _ _ _ c.ok_or.ensures.value c.in_err-place.was in
    rw (p.1, p.2, ← n.1) (λ images callees m. create_lacks_in _ _ _ _ _ _ _ _ _ _ _ c.requires.goal_bound.2.place _ refl c.requires.goal_bound.1 _ c.make_region-made.ensures.value _ _ _ (create_lacks _ _ _ _ _ _ _ _ _ c.requires.goal_bound.2.place _ refl _ _ _ c.requires.goal_bound.1 c.make_region-made.ensures.value c.make_region-made.ensures.regions_after c.make_region-made.ensures.frames_after n.0))

pub note-requires : goal.note-requires
note-requires c = search rules

pub successor-requires : goal.successor-requires
successor-requires c = (whole c.requires.formed.0 _ c.requires.goal_bound.0).0

pub overflow_add-result : goal.overflow_add-result
overflow_add-result c = omega (arith, c.requires.formed.2)

pub returns : goal.returns
returns c = λ images callees m. create_in _ _ _ _ _ _ _ _ _ _ _ c.requires.goal_bound.2.place _ refl c.requires.goal_bound.1 _ c.make_region-made.ensures.value _ _ (rw c.in_ok-place.was at c.ok_or.ensures.ok_part) _ _ (create_changes _ _ _ _ _ _ _ _ _ c.requires.goal_bound.2.place _ refl _ _ _ c.requires.goal_bound.1 c.make_region-made.ensures.value c.make_region-made.ensures.regions_after c.make_region-made.ensures.frames_after _ _ (rw c.in_ok-place.was at c.ok_or.ensures.ok_part)) _ (successor_as _ _ _ _ _ c.successor.ensures) (created_limits _ _ _ _ _ c.make_region-made.ensures.value (rw c.in_ok-place.was at c.ok_or.ensures.ok_part)) _ _ c.note.ensures (omega arith)
