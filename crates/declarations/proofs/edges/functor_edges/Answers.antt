-- The four positions one after the other.
use Rattle.chains.specs.Is.{functor_is}
use Rattle.chains.specs.Declared.{functor_at_law}
use Rattle.declarations.proofs.EdgeLaws.{functor_none, types_below, functor_first, functor_second, functor_third, functor_all}
use Rattle.std.proofs.Common.{rules, ◌∙◌}
use Rattle.declarations.proofs.edges.functor_edges.Goals as goal

pub word-requires : goal.word-requires
word-requires c = search rules

pub returns-then-word-eq0 : goal.returns-then-word-eq0
returns-then-word-eq0 c = functor_none _ _ c.requires.stands c.word.ensures.0 c.if-word-eq0.true

pub returns-in_default : goal.returns-in_default
returns-in_default c = absurd (c.in_default.not-Functor _ _ _ _ _ _ (c.record_at.ensures ∙ functor_is c.requires.stands_2.0 c.requires.stands_2.1))

pub position_ok-requires : goal.position_ok-requires
position_ok-requires c = record {
  declares = c.requires.declares;
  stands = c.requires.stands;
  t_lt_places = (types_below (functor_at_law c.requires.declares.0.formed c.record_at.ensures c.in-Functor.is) c.requires.i_value c.requires.declares.0.types_ok_law).0;
}

pub returns-in_err-e1 : goal.returns-in_err-e1
returns-in_err-e1 c = rw c.from_residual.ensures (functor_first _ _ (functor_at_law c.requires.declares.0.formed c.record_at.ensures c.in-Functor.is) c.requires.i_value c.position_ok.ensures c.in_err-e1.was)

pub position_ok-requires-2 : goal.position_ok-requires-2
position_ok-requires-2 c = record {
  declares = c.requires.declares;
  stands = c.position_ok.ensures.stands _ c.in_ok-e1.was;
  t_lt_places = (types_below (functor_at_law c.requires.declares.0.formed c.record_at.ensures c.in-Functor.is) c.requires.i_value c.requires.declares.0.types_ok_law).1;
}

pub returns-in_err-e2 : goal.returns-in_err-e2
returns-in_err-e2 c = rw c.from_residual-in_err-e2.ensures (functor_second _ _ (functor_at_law c.requires.declares.0.formed c.record_at.ensures c.in-Functor.is) c.requires.i_value c.position_ok.ensures c.in_ok-e1.was c.position_ok-2.ensures c.in_err-e2.was)

pub position_ok-requires-3 : goal.position_ok-requires-3
position_ok-requires-3 c = record {
  declares = c.requires.declares;
  stands = c.position_ok-2.ensures.stands _ c.in_ok-e2.was;
  t_lt_places = (types_below (functor_at_law c.requires.declares.0.formed c.record_at.ensures c.in-Functor.is) c.requires.i_value c.requires.declares.0.types_ok_law).2;
}

pub returns-in_err-e3 : goal.returns-in_err-e3
returns-in_err-e3 c = rw c.from_residual-in_err-e3.ensures (functor_third _ _ (functor_at_law c.requires.declares.0.formed c.record_at.ensures c.in-Functor.is) c.requires.i_value c.position_ok.ensures c.in_ok-e1.was c.position_ok-2.ensures c.in_ok-e2.was c.position_ok-3.ensures c.in_err-e3.was)

pub position_ok-requires-4 : goal.position_ok-requires-4
position_ok-requires-4 c = record {
  declares = c.requires.declares;
  stands = c.position_ok-3.ensures.stands _ c.in_ok-e3.was;
  t_lt_places = (types_below (functor_at_law c.requires.declares.0.formed c.record_at.ensures c.in-Functor.is) c.requires.i_value c.requires.declares.0.types_ok_law).3;
}

pub returns : goal.returns
returns c = functor_all _ _ (functor_at_law c.requires.declares.0.formed c.record_at.ensures c.in-Functor.is) c.requires.i_value c.position_ok.ensures c.in_ok-e1.was c.position_ok-2.ensures c.in_ok-e2.was c.position_ok-3.ensures c.in_ok-e3.was c.position_ok-4.ensures
