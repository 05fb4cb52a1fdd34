-- After t turns the functors of the first t types are listed.
use Rattle.std.proofs.Common.{arith, rules}
use native.Mathlib.Numerals.{add-one}
use mathlib.Core.Path.{refl}
use Rattle.chains.specs.Formed.{types_stand, counted}
use Rattle.chains.specs.Is.{chain_next, type_is}
use Rattle.chains.specs.Declared.{type_at}
use Rattle.declarations.specs.Functors.{stands_same}
use Rattle.declarations.proofs.ListingLaws.{left_all, left_here, left_next, left_end}
use Rattle.declarations.proofs.FillingLaws.{type_room, functors_few, functors_none, functors_next, functors_all}
use Rattle.declarations.proofs.listing.list_functors.Goals as goal

pub word-i-requires : goal.word-i-requires
word-i-requires c = record {
  formed = c.requires.formed;
  k_lt_record_words = (omega arith, (counted c.requires.formed).some);
}

pub loop-i-init : goal.loop-i-init
loop-i-init c = (functors_none _ c.requires.file_places_in_bounds.1 c.requires.file_places_in_bounds.2, rw c.word-i.ensures.0 (left_all _ _), stands_same c.word-i.ensures.0 (types_stand c.requires.formed))

pub overflow_add-t : goal.overflow_add-t
overflow_add-t c = search (rules, type_room c.requires.formed c.requires.file_value c.loop-i.invariant.1 c.loop-i-test.true c.loop-i.invariant.2.below)

pub word-start-requires : goal.word-start-requires
word-start-requires c = record {
  formed = c.requires.formed;
  k_lt_record_words = (omega arith, c.loop-i.invariant.2.below);
}

pub overflow_mul-t : goal.overflow_mul-t
overflow_mul-t c = search (rules, type_room c.requires.formed c.requires.file_value c.loop-i.invariant.1 c.loop-i-test.true c.loop-i.invariant.2.below)

pub overflow_add-t-in-loop-i : goal.overflow_add-t-in-loop-i
overflow_add-t-in-loop-i c = search (rules, type_room c.requires.formed c.requires.file_value c.loop-i.invariant.1 c.loop-i-test.true c.loop-i.invariant.2.below)

pub list_records-requires : goal.list_records-requires
list_records-requires c = let l = c.loop-i.invariant in let z = c.loop-i-test.true in let F = c.requires.formed in let few = functors_few F c.requires.file_value _ (left_here l.1 F z l.2.below) z c.word-start.ensures.0 in record {
  formed = F;
  start_bound = (stands_same c.word-start.ensures.0 (type_at F refl (type_is l.2 z)).to_functors.stands).below;
  start_in_bounds = omega (arith, few, c.requires.file_places_in_bounds.0, l.0.kept, type_room F c.requires.file_value l.1 z l.2.below);
}

pub regioned_start-requires : goal.regioned_start-requires
regioned_start-requires c = let F = c.requires.formed in record {
  formed = F;
  stands = stands_same c.word-start.ensures.0 (type_at F refl (type_is c.loop-i.invariant.2 c.loop-i-test.true)).to_functors.stands;
}

pub offset_bounds-table-start : goal.offset_bounds-table-start
offset_bounds-table-start c = let F = c.requires.formed in
    omega (arith, (counted F).most, (stands_same c.word-start.ensures.0 (type_at F refl (type_is c.loop-i.invariant.2 c.loop-i-test.true)).to_functors.stands).below)

pub bounds-table-start : goal.bounds-table-start
bounds-table-start c = let F = c.requires.formed in
    omega (arith, (counted F).most, (stands_same c.word-start.ensures.0 (type_at F refl (type_is c.loop-i.invariant.2 c.loop-i-test.true)).to_functors.stands).below)

pub word-i-requires-in-loop-i : goal.word-i-requires-in-loop-i
word-i-requires-in-loop-i c = record {
  formed = c.requires.formed;
  k_lt_record_words = (omega arith, c.loop-i.invariant.2.below);
}

pub loop-i-smaller : goal.loop-i-smaller
loop-i-smaller c = (chain_next c.requires.formed c.loop-i.invariant.2 c.loop-i-test.true c.word-i-in-loop-i.ensures.0).falls

pub loop-i-preserved : goal.loop-i-preserved
loop-i-preserved c = let l = c.loop-i.invariant in
    let z = c.loop-i-test.true in
    let F = c.requires.formed in
    let h = left_here l.1 F z l.2.below in
    let start = c.word-start.ensures.0 in
    (functors_next l.0 F h z start refl (add-one _) (functors_few F c.requires.file_value _ h z start) c.requires.file_places_in_bounds.0 c.list_records.ensures c.regioned_start.ensures, left_next l.1 F z l.2.below c.word-i-in-loop-i.ensures.0 (add-one _), (chain_next F l.2 z c.word-i-in-loop-i.ensures.0).stands)

pub returns : goal.returns
returns c = functors_all c.loop-i.invariant.0 c.requires.formed c.requires.file_value (left_end c.loop-i.invariant.1 c.loop-i-test.false)
