use Rattle.std.proofs.Common.{arith, rules}
use Rattle.owners.specs.Digits.{record_room}
use Rattle.conditions.proofs.PassLaws.{looked_first, looked_next, looked_last}
use Rattle.conditions.proofs.pass.any_condition.Goals as goal

pub record_count-i-end-requires : goal.record_count-i-end-requires
record_count-i-end-requires c = search rules

pub loop-i-init : goal.loop-i-init
loop-i-init c = search (looked_first, rules)

pub word_in-requires : goal.word_in-requires
word_in-requires c = (omega arith, record_room c.requires _ (omega (arith, c.loop-i.invariant.count)))

pub loop-i-preserved : goal.loop-i-preserved
loop-i-preserved c = looked_next _ c.loop-i.invariant c.loop-i-test.true c.word_in.ensures.0

pub returns : goal.returns
returns c = search (looked_last, rules)
