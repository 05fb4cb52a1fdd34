use Rattle.std.proofs.lemmas.Result.{err_from_is_err_and}
use Rattle.std.proofs.Common.{arith, rules}
use mathlib.Core.Path.{refl, sym, ◌∙◌}
use Rattle.frames.specs.Strays.{whole}
use Rattle.machine.specs.Calls.{successor_as}
use Rattle.machine.proofs.Numbers.{construct_low}
use Rattle.machine.proofs.HeapsLaws.{lacked, construct_changes, construct_lacks}
use Rattle.machine.proofs.LimitsLaws.{term_limits}
use Rattle.machine.proofs.TryingLaws.{constant_in, cell_in_law, construct_lacks_in}
use Rattle.machine.proofs.opened.construct_in.Goals as goal

pub overflow_add-i : goal.overflow_add-i
overflow_add-i c = let w = whole c.requires.formed.0 _ c.requires.goal_bound.0 in omega (arith, w.0)

pub offset_bounds-plan-i : goal.offset_bounds-plan-i
offset_bounds-plan-i c = let w = whole c.requires.formed.0 _ c.requires.goal_bound.0 in omega (arith, w.0)

pub bounds-plan-i : goal.bounds-plan-i
bounds-plan-i c = let w = whole c.requires.formed.0 _ c.requires.goal_bound.0 in omega (arith, w.0)

pub region-home-requires : goal.region-home-requires
region-home-requires c = ((construct_low c.requires.formed.1 _ refl c.requires.goal_bound.1).2, c.requires.goal_bound.2.fits)

pub construct-made-requires : goal.construct-made-requires
construct-made-requires c = let w = whole c.requires.formed.0 _ c.requires.goal_bound.0 in record {
  i_lt_max_records = (w.0, w.1, c.requires.goal_bound.2.fits);
  goal_x_bound = construct_low c.requires.formed.1 _ refl c.requires.goal_bound.1;
}

pub returns-in_err-left : goal.returns-in_err-left
returns-in_err-left c =
    let p = err_from_is_err_and c.from_residual.result c.from_residual.ensures.1 in
    let n = lacked _ _ _ _ c.ok_or.ensures.value c.in_err-left.was in
    rw (p.1, p.2, ← n.1) (λ images callees. construct_lacks_in _ _ _ _ _ _ _ _ _ _ _ c.requires.goal_bound.2.place _ refl c.requires.goal_bound.1 _ _ _ _ (construct_lacks _ _ _ _ _ _ _ _ _ c.requires.goal_bound.2.place _ refl _ _ _ _ c.requires.goal_bound.1 c.construct-made.ensures n.0))

pub successor-next-requires : goal.successor-next-requires
successor-next-requires c = (whole c.requires.formed.0 _ c.requires.goal_bound.0).0

pub word_in-requires : goal.word_in-requires
word_in-requires c = (omega arith, (whole c.requires.formed.0 _ c.requires.goal_bound.0).1)

pub returns-then-word_in-eq0 : goal.returns-then-word_in-eq0
returns-then-word_in-eq0 c = λ images callees. constant_in _ _ _ _ _ _ _ _ _ _ _ c.requires.goal_bound.2.place _ refl c.requires.goal_bound.1 _ _ _ _ (construct_changes _ _ _ _ _ _ _ _ _ c.requires.goal_bound.2.place _ refl _ _ _ _ c.requires.goal_bound.1 c.construct-made.ensures _ _ (rw c.in_ok-left.was at c.ok_or.ensures.ok_part)) _ (successor_as _ _ _ _ _ c.successor-next.ensures) (term_limits _ _ _ _ _ _ _ c.construct-made.ensures.0.0 (rw c.in_ok-left.was at c.ok_or.ensures.ok_part)) (sym c.word_in.ensures.0 ∙ c.if-word_in-eq0.true)

pub note-requires : goal.note-requires
note-requires c = search rules

pub overflow_add-result : goal.overflow_add-result
overflow_add-result c = omega (arith, c.requires.formed.2)

pub returns : goal.returns
returns c = λ images callees. cell_in_law _ _ _ _ _ _ _ _ _ _ _ c.requires.goal_bound.2.place _ refl c.requires.goal_bound.1 _ _ _ _ (construct_changes _ _ _ _ _ _ _ _ _ c.requires.goal_bound.2.place _ refl _ _ _ _ c.requires.goal_bound.1 c.construct-made.ensures _ _ (rw c.in_ok-left.was at c.ok_or.ensures.ok_part)) _ (successor_as _ _ _ _ _ c.successor-next.ensures) (term_limits _ _ _ _ _ _ _ c.construct-made.ensures.0.0 (rw c.in_ok-left.was at c.ok_or.ensures.ok_part)) (λ z. c.if-word_in-eq0.false (c.word_in.ensures.0 ∙ z)) _ _ _ c.region-home.ensures c.note.ensures (omega arith)
