use Rattle.std.proofs.Common.{arith, rules}
use mathlib.Core.Path.{refl}
use Rattle.frames.specs.Strays.{whole, in_length, past_length}
use Rattle.machine.proofs.CallsLaws.{return_none, return_as, pictured}
use Rattle.machine.proofs.calls.give_back.Goals as goal

pub returns-then-file-i : goal.returns-then-file-i
returns-then-file-i c = λ k e. return_none _ _ _ _ k _ _ _ e c.wide-i.ensures (past_length c.requires.formed _ c.if-file-i.true)

pub values_out-requires : goal.values_out-requires
values_out-requires c = record {
  links = c.requires.narrow.0.outs;
  i_lt_max_records = ((whole c.requires.formed _ (in_length c.requires.formed _ c.if-file-i.false)).0, c.requires.narrow.1);
}

pub word_in-q-requires : goal.word_in-q-requires
word_in-q-requires c = (omega arith, (whole c.requires.formed _ (in_length c.requires.formed _ c.if-file-i.false)).1)

pub overflow_add-i : goal.overflow_add-i
overflow_add-i c = omega (arith, (whole c.requires.formed _ (in_length c.requires.formed _ c.if-file-i.false)).0)

pub offset_bounds-plan-i : goal.offset_bounds-plan-i
offset_bounds-plan-i c = omega (arith, (whole c.requires.formed _ (in_length c.requires.formed _ c.if-file-i.false)).0)

pub bounds-plan-i : goal.bounds-plan-i
bounds-plan-i c = omega (arith, (whole c.requires.formed _ (in_length c.requires.formed _ c.if-file-i.false)).0)

pub regions_out-requires : goal.regions_out-requires
regions_out-requires c = (pictured c.requires.narrow.0 _ (whole c.requires.formed _ (in_length c.requires.formed _ c.if-file-i.false)).0, search rules)

pub returns : goal.returns
returns c = λ k e. return_as _ _ _ _ k _ _ _ _ _ _ _ _ _ e c.wide-i.ensures (in_length c.requires.formed _ c.if-file-i.false) c.values_out.ensures c.word_in-q.ensures.0 c.callee_word.ensures c.loaded-born.ensures refl c.regions_out.ensures
