-- The attribute's two cases.
use Rattle.std.proofs.Common.{inl, inr}
use Rattle.owners.proofs.Filling.{number_next, number_kind, number_word}
use Rattle.owners.proofs.pass.next_owner.Goals as goal

pub returns-then-word-eq-NEXT : goal.returns-then-word-eq-NEXT
returns-then-word-eq-NEXT c = λ i. number_next _ i _ _ c.if-kind-eq-PROCEDURE.true c.if-word-eq-NEXT.true

pub returns-else-kind-eq-PROCEDURE : goal.returns-else-kind-eq-PROCEDURE
returns-else-kind-eq-PROCEDURE c = λ i. elim c.else-kind-eq-PROCEDURE.either [ inl e ↦ number_word _ i _ _ e.1 | inr e ↦ number_kind _ i _ _ e ]
