use mathlib.Core.Path.{refl, ◌∙◌}
use Rattle.chains.specs.Declared.{procedure_at_law}
use Rattle.chains.specs.Is.{procedure_is}
use Rattle.chains.specs.Turns.{tests_first, tests_last, tests_stop, tests_next, turn_below}
use Rattle.liveness.proofs.ClassesLaws.{classes_all}
use Rattle.std.proofs.Common.{rules}
use Rattle.liveness.proofs.classes.call_classes_ok.Goals as goal

pub loop-i-init : goal.loop-i-init
loop-i-init c = search (tests_first, rules)

pub procedure_ok-requires : goal.procedure_ok-requires
procedure_ok-requires c = let h = c.loop-i.invariant.0 in let a = procedure_at_law c.requires.formed refl (procedure_is h.turn.stands c.loop-i-test.true) in record {
  formed = c.requires.formed;
  prepared = c.requires.prepared;
  q_in_bounds = turn_below h.turn a;
  points_len = c.loop-i.invariant.1;
}

pub returns-then-not-procedure_ok : goal.returns-then-not-procedure_ok
returns-then-not-procedure_ok c = let h = c.loop-i.invariant.0 in let a = procedure_at_law c.requires.formed refl (procedure_is h.turn.stands c.loop-i-test.true) in record {
  points_len_2 = c.procedure_ok.ensures.points_len_2;
  value = tests_stop _ h a c.procedure_ok.ensures.value c.if-not-procedure_ok.true ∙ classes_all _;
}

pub overflow_add-q : goal.overflow_add-q
overflow_add-q c = let h = c.loop-i.invariant.0 in let a = procedure_at_law c.requires.formed refl (procedure_is h.turn.stands c.loop-i-test.true) in let l = turn_below h.turn a in let m = c.requires.prepared.few in search rules

pub loop-i-smaller : goal.loop-i-smaller
loop-i-smaller c = let h = c.loop-i.invariant.0 in let a = procedure_at_law c.requires.formed refl (procedure_is h.turn.stands c.loop-i-test.true) in (rw c.word-i-in-loop-i.ensures.0 a.to_next.falls)

pub loop-i-preserved : goal.loop-i-preserved
loop-i-preserved c = let h = c.loop-i.invariant.0 in let a = procedure_at_law c.requires.formed refl (procedure_is h.turn.stands c.loop-i-test.true) in (rw c.word-i-in-loop-i.ensures.0 (tests_next _ h a c.procedure_ok.ensures.value c.if-not-procedure_ok.false), c.procedure_ok.ensures.points_len_2)

pub returns : goal.returns
returns c = record {
  points_len_2 = c.loop-i.invariant.1;
  value = tests_last _ c.loop-i.invariant.0 c.loop-i-test.false ∙ classes_all _;
}
