-- The attribute's two cases.
use Rattle.std.proofs.Common.{inl, inr}
use Rattle.conditions.proofs.PassLaws.{mark_condition, mark_kind, mark_word}
use Rattle.conditions.proofs.pass.next_mark.Goals as goal

pub returns-then-word-eq-TRY_CONDITION : goal.returns-then-word-eq-TRY_CONDITION
returns-then-word-eq-TRY_CONDITION c = λ i. mark_condition _ i _ _ c.if-kind-eq-TRY.true c.if-word-eq-TRY_CONDITION.true

pub returns-else-kind-eq-TRY : goal.returns-else-kind-eq-TRY
returns-else-kind-eq-TRY c = λ i. elim c.else-kind-eq-TRY.either [ inl e ↦ mark_word _ i _ _ e.1 | inr e ↦ mark_kind _ i _ _ e ]
