use Rattle.std.proofs.lemmas.Result.{err_from_is_err_and}
use Rattle.machine.proofs.Numbers.{construct_low}
use mathlib.Core.Path.{refl}
use Rattle.machine.proofs.HeapsLaws.{lacked, construct_changes, construct_lacks}
use Rattle.frames.specs.Strays.{whole}
use Rattle.machine.proofs.heaps.construct_step.Goals as goal

pub construct-made-requires : goal.construct-made-requires
construct-made-requires c = let w = whole c.requires.formed.0 _ c.requires.goal_bound.0 in record {
  i_lt_max_records = (w.0, w.1, c.requires.goal_bound.2.fits);
  goal_x_bound = construct_low c.requires.formed.1 _ refl c.requires.goal_bound.1;
}

pub returns-in_err-left : goal.returns-in_err-left
returns-in_err-left c =
    let p = err_from_is_err_and c.from_residual.result c.from_residual.ensures.1 in
    let n = lacked _ _ _ _ c.ok_or.ensures.value c.in_err-left.was in
    rw (p.1, p.2, ← n.1) (λ images callees. construct_lacks _ _ _ _ _ _ _ _ _ c.requires.goal_bound.2.place _ refl _ _ _ _ c.requires.goal_bound.1 c.construct-made.ensures n.0)

pub returns : goal.returns
returns c = λ images callees. construct_changes _ _ _ _ _ _ _ _ _ c.requires.goal_bound.2.place _ refl _ _ _ _ c.requires.goal_bound.1 c.construct-made.ensures _ _ (rw c.in_ok-left.was at c.ok_or.ensures.ok_part)
