-- The invariant and its laws are in Testing.
use Rattle.std.proofs.Common.{arith, rules, inl, inr}
use Rattle.owners.proofs.Testing.{first, stop_create, stop_remove, next, last}
use Rattle.owners.proofs.plain.is_unannotated.Goals as goal

pub record_count-i-end-requires : goal.record_count-i-end-requires
record_count-i-end-requires c = search rules

pub loop-i-init : goal.loop-i-init
loop-i-init c = first c.requires c.record_count-i-end.ensures

pub returns-then-kind-eq-CREATE : goal.returns-then-kind-eq-CREATE
returns-then-kind-eq-CREATE c =
    elim c.then-kind-eq-CREATE.either [
      | inl e ↦ stop_create c.loop-i.invariant c.loop-i-test.true c.word-kind.ensures.0 e
      | inr e ↦ stop_remove c.loop-i.invariant c.loop-i-test.true c.word-kind.ensures.0 e.1
    ]

pub loop-i-preserved : goal.loop-i-preserved
loop-i-preserved c = next c.loop-i.invariant c.loop-i-test.true c.word-kind.ensures.0 c.if-kind-eq-CREATE.false c.if-kind-eq-REMOVE.false

pub returns : goal.returns
returns c = last c.loop-i.invariant (omega arith)
