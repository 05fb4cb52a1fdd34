-- The attribute's cases.
use Rattle.std.proofs.Common.{inl, inr}
use Rattle.plans.specs.Onward.{condition_onward, next_onward_law, kind_onward, word_onward}
use Rattle.plans.proofs.onward.next_onward.Goals as goal

pub returns-then-word-eq-TRY_CONDITION : goal.returns-then-word-eq-TRY_CONDITION
returns-then-word-eq-TRY_CONDITION c = λ f i e. condition_onward f _ i _ _ c.if-kind-eq-TRY.true c.if-word-eq-TRY_CONDITION.true

pub returns-then-word-eq-NEXT : goal.returns-then-word-eq-NEXT
returns-then-word-eq-NEXT c = λ f i e. next_onward_law f _ i _ _ c.if-word-eq-NEXT.true

pub returns : goal.returns
returns c = λ f i e.
    elim c.else-kind-eq-TRY.either [
      | inl w ↦ word_onward f _ i _ _ w.1 e c.if-word-eq-NEXT.false c.parts_onward.ensures
      | inr w ↦ kind_onward f _ i _ _ w e c.if-word-eq-NEXT.false c.parts_onward.ensures
    ]
