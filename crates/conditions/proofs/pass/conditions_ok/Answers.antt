-- The first i records have handed down, and stand where they may.
use lib.ListN.{get_or}
use mathlib.Core.Path.{◌≡◌, refl, sym, ◌∙◌}
use Rattle.std.proofs.Common.{arith, rules}
use Rattle.chains.specs.Formed.{counted}
use Rattle.owners.specs.Handed.{given}
use Rattle.owners.specs.Gives.{down_by_words}
use Rattle.owners.specs.Digits.{record_room}
use Rattle.conditions.specs.Inside.{inside_by}
use Rattle.conditions.specs.Without.{without_conditions}
use Rattle.conditions.proofs.PassLaws.{passed_first, passed_stop, passed_next, passed_length, passed_last}
use Rattle.conditions.proofs.pass.conditions_ok.Goals as goal

pub any_condition-requires : goal.any_condition-requires
any_condition-requires c = search rules

pub returns-then-not-any_condition : goal.returns-then-not-any_condition
returns-then-not-any_condition c = without_conditions c.requires (sym c.any_condition.ensures ∙ c.if-not-any_condition.true)

pub record_count-i-end-requires : goal.record_count-i-end-requires
record_count-i-end-requires c = search rules

pub loop-i-init : goal.loop-i-init
loop-i-init c = passed_first c.requires c.record_count-i-end.ensures refl

pub offset_bounds-inside-i : goal.offset_bounds-inside-i
offset_bounds-inside-i c = omega (arith, c.loop-i.invariant.count, (counted c.requires).most)

pub bounds-inside-i : goal.bounds-inside-i
bounds-inside-i c = omega (arith, c.loop-i.invariant.count, (counted c.requires).most)

pub word_in-kind-requires : goal.word_in-kind-requires
word_in-kind-requires c = (omega arith, record_room c.requires _ (omega (arith, c.loop-i.invariant.count)))

pub may_stand-requires : goal.may_stand-requires
may_stand-requires c = search rules

pub returns-then-not-may_stand : goal.returns-then-not-may_stand
returns-then-not-may_stand c =
    passed_stop c.requires c.loop-i.invariant c.loop-i-test.true refl c.word_in-kind.ensures.0 c.may_stand.ensures c.if-not-may_stand.true

pub slice_bounds-hand_to-end : goal.slice_bounds-hand_to-end
slice_bounds-hand_to-end c = sym (passed_length c.requires c.loop-i.invariant)

pub hand_to-requires : goal.hand_to-requires
hand_to-requires c = let F = c.requires in record {
  formed = F;
  i_bound = (omega (arith, c.loop-i.invariant.count, c.loop-i-test.true), omega (arith, passed_length F c.loop-i.invariant, (counted F).most));
  may_give = λ k b. search rules;
}

pub loop-i-preserved : goal.loop-i-preserved
unfolding given
loop-i-preserved c =
    passed_next c.requires c.loop-i.invariant c.loop-i-test.true refl c.word_in-kind.ensures.0 c.may_stand.ensures c.if-not-may_stand.false
    (down_by_words inside_by _ _ _
    (c.hand_to.ensures _ (λ k r b p.
    let q : r ≡ inside_by c.word_in-kind.result c.loop-i.i k (get_or c.loop-i.inside c.loop-i.i 0) = search rules in
    rw c.word_in-kind.ensures.0 at q)))

pub returns : goal.returns
returns c = passed_last c.requires c.loop-i.invariant c.loop-i-test.false
