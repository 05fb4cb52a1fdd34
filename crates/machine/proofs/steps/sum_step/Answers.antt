use Rattle.std.proofs.Common.{arith, rules}
use mathlib.Core.Path.{refl, sym, ap, ◌∙◌}
use mir.Syntax.{w64}
use mir.Facts.{to_z-of_z}
use Rattle.language.specs.Numbers.{residue}
use Rattle.frames.specs.Strays.{whole}
use Rattle.machine.specs.Calls.{successor_as}
use Rattle.machine.proofs.GoalsLaws.{gives, range_as}
use Rattle.machine.proofs.Numbers.{sum_low}
use Rattle.machine.proofs.StepsLaws.{goes_same, sum_goes, sum_stops}
use Rattle.machine.proofs.steps.sum_step.Goals as goal

pub sum-v-requires : goal.sum-v-requires
sum-v-requires c = let l = sum_low c.requires.formed.1 _ refl c.requires.goal_bound.1 in record {
  record_bytes_in_bounds = ((whole c.requires.formed.0 _ c.requires.goal_bound.0).1, c.requires.goal_bound.2.fits);
  sum_y_bound = (l.1, l.2);
}

pub returns-then-not-in_range : goal.returns-then-not-in_range
returns-then-not-in_range c = λ images callees m ps. sum_stops _ _ _ _ _ _ c.requires.goal_bound.2 _ refl _ c.requires.goal_bound.1 c.sum-v.ensures (sym (range_as _ _ (search rules) c.in_range.ensures) ∙ c.if-not-in_range.true)

pub word_in-requires : goal.word_in-requires
word_in-requires c = (omega arith, (whole c.requires.formed.0 _ c.requires.goal_bound.0).1)

pub word_of-requires : goal.word_of-requires
word_of-requires c = sym c.in_range.ensures ∙ c.if-not-in_range.false

pub give-requires : goal.give-requires
give-requires c = (rw c.word_in.ensures.0 (sum_low c.requires.formed.1 _ refl c.requires.goal_bound.1).0, c.requires.goal_bound.2.fits)

pub successor-requires : goal.successor-requires
successor-requires c = (whole c.requires.formed.0 _ c.requires.goal_bound.0).0

pub returns : goal.returns
returns c =
    λ images callees m ps. goes_same _ _ _ _ _ _ _ _ _ _ c.onward.ensures
    (sum_goes _ _ _ _ _ _ c.requires.goal_bound.2 _ _ refl (successor_as _ _ _ _ _ c.successor.ensures) _ _ c.requires.goal_bound.1 c.sum-v.ensures (sym (range_as _ _ (search rules) c.in_range.ensures) ∙ c.if-not-in_range.false)
    (gives c.args.state.at _ _ _ _ c.args.frames.now _ c.give.ensures c.word_in.ensures.0 (c.word_of.ensures ∙ ap residue (to_z-of_z {w = w64} (search rules)))))
