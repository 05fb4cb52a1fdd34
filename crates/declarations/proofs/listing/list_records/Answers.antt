-- After n turns the first n records are listed, and the chain at record i is what is left.
use Rattle.std.proofs.Common.{arith, rules}
use native.Mathlib.Numerals.{add-one}
use Rattle.chains.specs.Formed.{counted}
use Rattle.chains.specs.Records.{next_onward}
use Rattle.declarations.proofs.ListingLaws.{left_all, left_here, left_next, left_end, left_room, lists_none, lists_next, lists_all}
use Rattle.declarations.proofs.listing.list_records.Goals as goal

pub loop-i-init : goal.loop-i-init
loop-i-init c = (lists_none _ _ _, left_all _ _, c.requires.start_bound)

pub narrow-requires : goal.narrow-requires
narrow-requires c = omega (arith, (counted c.requires.formed).most, c.loop-i.invariant.2)

pub overflow_add-table : goal.overflow_add-table
overflow_add-table c = search (rules, left_room c.loop-i.invariant.1 c.requires.formed c.loop-i-test.true c.loop-i.invariant.2, c.requires.start_in_bounds)

pub offset_bounds-table-at : goal.offset_bounds-table-at
offset_bounds-table-at c = search (rules, left_room c.loop-i.invariant.1 c.requires.formed c.loop-i-test.true c.loop-i.invariant.2, c.requires.start_in_bounds)

pub bounds-table-at : goal.bounds-table-at
bounds-table-at c = search (rules, c.loop-i.invariant.0.kept, left_room c.loop-i.invariant.1 c.requires.formed c.loop-i-test.true c.loop-i.invariant.2, c.requires.start_in_bounds)

pub overflow_add-n : goal.overflow_add-n
overflow_add-n c = search (rules, left_room c.loop-i.invariant.1 c.requires.formed c.loop-i-test.true c.loop-i.invariant.2, c.requires.start_in_bounds)

pub word-i-requires : goal.word-i-requires
word-i-requires c = record {
  formed = c.requires.formed;
  k_lt_record_words = (omega arith, c.loop-i.invariant.2);
}

pub loop-i-smaller : goal.loop-i-smaller
loop-i-smaller c = (next_onward c.requires.formed c.loop-i-test.true c.loop-i.invariant.2 c.word-i.ensures.0).falls

pub loop-i-preserved : goal.loop-i-preserved
loop-i-preserved c = let l = c.loop-i.invariant in
    let z = c.loop-i-test.true in
    (lists_next l.0 (add-one _) (omega (arith, left_room l.1 c.requires.formed z l.2, c.requires.start_in_bounds)) (rw c.narrow.ensures (left_here l.1 c.requires.formed z l.2)), left_next l.1 c.requires.formed z l.2 c.word-i.ensures.0 (add-one _), (next_onward c.requires.formed z l.2 c.word-i.ensures.0).stands.below)

pub shape_of-table : goal.shape_of-table
shape_of-table c = c.loop-i.invariant.0.kept

pub returns : goal.returns
returns c = lists_all c.loop-i.invariant.0 (left_end c.loop-i.invariant.1 c.loop-i-test.false)
