-- After i turns the first i records have handed down.
use mathlib.Core.Path.{◌≡◌, refl, ◌∙◌}
use Rattle.std.proofs.Common.{arith, rules}
use lib.ListN.{get_or, length-set}
use Rattle.chains.specs.Formed.{counted}
use Rattle.owners.specs.Handed.{given, handed_up_to}
use Rattle.owners.specs.Digits.{record_room}
use Rattle.owners.specs.Gives.{down_by_words}
use Rattle.word_machine.specs.Filling.{onward_by}
use Rattle.plans.specs.Onward.{onward_next, onward_last}
use Rattle.plans.proofs.onward.fill_onward.Goals as goal

pub loop-i-init : goal.loop-i-init
unfolding handed_up_to
loop-i-init c = refl

pub bounds-table-i : goal.bounds-table-i
bounds-table-i c = omega (arith, c.record_count-i-end.ensures, c.requires.file_in_bounds, c.loop-i.auto.table)

pub word_in-kind-requires : goal.word_in-kind-requires
word_in-kind-requires c = (omega arith, record_room c.requires.formed _ (omega (arith, c.record_count-i-end.ensures, c.loop-i-test.true)))

pub word_in-next-requires : goal.word_in-next-requires
word_in-next-requires c = (omega arith, record_room c.requires.formed _ (omega (arith, c.record_count-i-end.ensures, c.loop-i-test.true)))

pub hand_to-requires : goal.hand_to-requires
hand_to-requires c = record {
  formed = c.requires.formed;
  i_bound = (omega (arith, c.record_count-i-end.ensures, c.loop-i-test.true), omega (arith, c.requires.file_in_bounds, c.loop-i.auto.table));
  may_give = λ k b. search rules;
}

pub loop-i-preserved : goal.loop-i-preserved
unfolding given
loop-i-preserved c =
    onward_next _ c.loop-i.i _ _ c.loop-i.invariant
    (down_by_words (onward_by c.args.file.now) _ _ _
    (c.hand_to.ensures _ (λ k r b p.
    let q : r ≡ onward_by c.args.file.now c.word_in-kind.result c.loop-i.i k (get_or c.loop-i.table c.loop-i.i 0) = search rules in
    rw c.word_in-kind.ensures.0 at q)))

pub bounds-table-0 : goal.bounds-table-0
bounds-table-0 c = omega (arith, c.requires.file_in_bounds, (counted c.requires.formed).some, c.loop-i.auto.table)

pub shape_of-table : goal.shape_of-table
shape_of-table c = length-set c.loop-i.table 0 0 ∙ c.loop-i.auto.table

pub returns : goal.returns
returns c = onward_last _ c.loop-i.i _ _ c.record_count-i-end.ensures c.loop-i.invariant (omega arith) (omega arith)
