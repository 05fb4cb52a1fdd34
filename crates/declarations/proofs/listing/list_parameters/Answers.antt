-- After a turn the links of the records from i on are right.
use Rattle.std.proofs.Common.{arith, rules}
use mathlib.Core.Path.{sym, ◌∙◌}
use Rattle.chains.specs.Formed.{counted}
use Rattle.declarations.specs.Parameters.{linked_variable}
use Rattle.declarations.proofs.ParametersLaws.{linked_none, linked_other, linked_all}
use Rattle.declarations.proofs.listing.list_parameters.Goals as goal

pub record_count-i-requires : goal.record_count-i-requires
record_count-i-requires c = search rules

pub loop-i-init : goal.loop-i-init
loop-i-init c = (linked_none c.requires.formed c.record_count-i.ensures c.requires.file_places_in_bounds.1, omega (arith, c.record_count-i.ensures))

pub word-requires : goal.word-requires
word-requires c = record {
  formed = c.requires.formed;
  k_lt_record_words = (omega arith, omega (arith, c.loop-i.invariant.1));
}

pub link-requires : goal.link-requires
link-requires c = record {
  formed = c.requires.formed;
  i_nonzero = (omega arith, omega (arith, c.loop-i.invariant.1));
}

pub offset_bounds-table-i : goal.offset_bounds-table-i
offset_bounds-table-i c = search (rules, (counted c.requires.formed).most, c.loop-i.invariant.1)

pub bounds-table-i : goal.bounds-table-i
bounds-table-i c = omega (arith, (counted c.requires.formed).most, c.loop-i.invariant.1)

pub loop-i-smaller-then-word-eq-VARIABLE : goal.loop-i-smaller-then-word-eq-VARIABLE
loop-i-smaller-then-word-eq-VARIABLE c = omega arith

pub loop-i-preserved-then-word-eq-VARIABLE : goal.loop-i-preserved-then-word-eq-VARIABLE
loop-i-preserved-then-word-eq-VARIABLE c = (linked_variable c.requires.formed c.loop-i.invariant.0 _ (omega arith) (λ z. omega arith) (sym c.word.ensures.0 ∙ c.if-word-eq-VARIABLE.true) (omega (arith, c.loop-i.invariant.1)) c.requires.file_places_in_bounds.0 c.link.ensures, omega (arith, c.loop-i.invariant.1))

pub loop-i-smaller : goal.loop-i-smaller
loop-i-smaller c = omega arith

pub loop-i-preserved : goal.loop-i-preserved
loop-i-preserved c = (linked_other c.requires.formed c.loop-i.invariant.0 _ (omega arith) (λ z. omega arith) (λ k. c.if-word-eq-VARIABLE.false (c.word.ensures.0 ∙ k)), omega (arith, c.loop-i.invariant.1))

pub returns : goal.returns
returns c = linked_all c.loop-i.invariant.0 c.loop-i-test.false
