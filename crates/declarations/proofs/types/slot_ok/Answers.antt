use Rattle.declarations.proofs.TypeLaws.{slot_in, slot_past}
use Rattle.declarations.proofs.types.slot_ok.Goals as goal

pub returns-then-k-arity : goal.returns-then-k-arity
returns-then-k-arity c = slot_in _ _ _ _ c.if-k-arity.true

pub returns : goal.returns
returns c = slot_past _ _ _ _ c.if-k-arity.false
