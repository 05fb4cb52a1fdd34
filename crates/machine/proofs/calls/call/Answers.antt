use Rattle.std.proofs.Common.{arith, rules}
use mathlib.Core.Path.{refl}
use Rattle.machine.proofs.CallsLaws.{call_as, pictured}
use Rattle.machine.proofs.calls.call.Goals as goal

pub overflow_cast-successor : goal.overflow_cast-successor
overflow_cast-successor c = omega (arith, c.successor.ensures, c.requires.narrow.0.goals _ c.requires.i_lt_max_records.0)

pub values_in-requires : goal.values_in-requires
values_in-requires c = search rules

pub regions_in-requires : goal.regions_in-requires
regions_in-requires c = (pictured c.requires.narrow.0 _ c.requires.i_lt_max_records.0, search rules)

pub returns : goal.returns
returns c = record {
  value = rw (← c.word_in-q.ensures.0) c.body_of.ensures;
  by_index = λ k e. call_as _ _ _ _ k _ _ _ _ _ _ _ _ _ _ _ _ _ e c.word_in-q.ensures.0 c.successor.ensures c.mark.ensures c.size_of.ensures c.clear.ensures
      c.values_in.ensures c.callee_word.ensures c.loaded-held.ensures refl c.regions_in.ensures;
}
