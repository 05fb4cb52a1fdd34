use mathlib.Core.Path.{refl, ◌∙◌}
use Rattle.std.proofs.Common.{arith, rules}
use Rattle.chains.specs.Formed.{counted}
use Rattle.chains.specs.Declared.{procedure_at_law}
use Rattle.chains.specs.Is.{procedure_is}
use Rattle.chains.specs.Turns.{tests_first, tests_last, tests_stop, tests_next, turn_below}
use Rattle.checking.proofs.ProceduresLaws.{rules_all}
use Rattle.checking.proofs.procedures.rules_ok.Goals as goal

pub word-i-requires : goal.word-i-requires
word-i-requires c = let F = c.requires.formed in record {
  formed = F;
  k_lt_record_words = (omega arith, (counted F).some);
}

pub loop-i-init : goal.loop-i-init
loop-i-init c = search (tests_first, rules)

pub procedure_ok-requires : goal.procedure_ok-requires
procedure_ok-requires c = let h = c.loop-i.invariant in let a = procedure_at_law c.requires.formed refl (procedure_is h.turn.stands c.loop-i-test.true) in record {
  formed = c.requires.formed;
  prepared = c.requires.prepared;
  q_in_bounds = turn_below h.turn a;
}

pub returns-then-not-procedure_ok : goal.returns-then-not-procedure_ok
returns-then-not-procedure_ok c = let h = c.loop-i.invariant in let a = procedure_at_law c.requires.formed refl (procedure_is h.turn.stands c.loop-i-test.true) in tests_stop _ h a c.procedure_ok.ensures c.if-not-procedure_ok.true ∙ rules_all _

pub overflow_add-q : goal.overflow_add-q
overflow_add-q c = let h = c.loop-i.invariant in let a = procedure_at_law c.requires.formed refl (procedure_is h.turn.stands c.loop-i-test.true) in let l = turn_below h.turn a in let m = c.requires.prepared.few in search rules

pub word-i-requires-in-loop-i : goal.word-i-requires-in-loop-i
word-i-requires-in-loop-i c = search rules

pub loop-i-smaller : goal.loop-i-smaller
loop-i-smaller c = let h = c.loop-i.invariant in let a = procedure_at_law c.requires.formed refl (procedure_is h.turn.stands c.loop-i-test.true) in (rw c.word-i-in-loop-i.ensures.0 a.to_next.falls)

pub loop-i-preserved : goal.loop-i-preserved
loop-i-preserved c = let h = c.loop-i.invariant in let a = procedure_at_law c.requires.formed refl (procedure_is h.turn.stands c.loop-i-test.true) in (rw c.word-i-in-loop-i.ensures.0 (tests_next _ h a c.procedure_ok.ensures c.if-not-procedure_ok.false))

pub returns : goal.returns
returns c = tests_last _ c.loop-i.invariant c.loop-i-test.false ∙ rules_all _
