use Rattle.declarations.proofs.TypeLaws.{functor_many, functor_first, functor_second, functor_third, functor_all}
use Rattle.declarations.proofs.types.functor_ok.Goals as goal

pub returns-then-arity-gt-MAX_ARITY : goal.returns-then-arity-gt-MAX_ARITY
returns-then-arity-gt-MAX_ARITY c = functor_many _ _ _ _ _ _ c.if-arity-gt-MAX_ARITY.true

pub returns-then-not-slot_ok : goal.returns-then-not-slot_ok
returns-then-not-slot_ok c = functor_first _ _ _ _ _ _ c.if-arity-gt-MAX_ARITY.false c.slot_ok.ensures c.if-not-slot_ok.true

pub returns-then-not-slot_ok-2 : goal.returns-then-not-slot_ok-2
returns-then-not-slot_ok-2 c = functor_second _ _ _ _ _ _ c.if-arity-gt-MAX_ARITY.false c.slot_ok.ensures c.if-not-slot_ok.false c.slot_ok-2.ensures c.if-not-slot_ok-2.true

pub returns-then-not-slot_ok-3 : goal.returns-then-not-slot_ok-3
returns-then-not-slot_ok-3 c = functor_third _ _ _ _ _ _ c.if-arity-gt-MAX_ARITY.false c.slot_ok.ensures c.if-not-slot_ok.false c.slot_ok-2.ensures c.if-not-slot_ok-2.false c.slot_ok-3.ensures c.if-not-slot_ok-3.true

pub returns : goal.returns
returns c = functor_all _ _ _ _ _ _ c.if-arity-gt-MAX_ARITY.false c.slot_ok.ensures c.if-not-slot_ok.false c.slot_ok-2.ensures c.if-not-slot_ok-2.false c.slot_ok-3.ensures c.if-not-slot_ok-3.false c.slot_ok-4.ensures
