use Rattle.std.proofs.Common.{arith}
use mathlib.Core.Path.{refl}
use Rattle.declarations.proofs.DeclaresLaws.{functor_low}
use Rattle.declarations.proofs.EdgeLaws.{position_bare, position_regioned}
use Rattle.declarations.proofs.edges.position_ok.Goals as goal

pub first_functor-requires : goal.first_functor-requires
first_functor-requires c = c.requires.t_lt_places

pub offset_bounds-table-first_functor : goal.offset_bounds-table-first_functor
offset_bounds-table-first_functor c = omega (arith, c.first_functor.ensures, functor_low c.requires.declares.0 c.args.t 0)

pub bounds-table-first_functor : goal.bounds-table-first_functor
bounds-table-first_functor c = omega (arith, c.first_functor.ensures, functor_low c.requires.declares.0 c.args.t 0)

pub returns-then-table-first_functor-eq0 : goal.returns-then-table-first_functor-eq0
returns-then-table-first_functor-eq0 c = position_bare _ _ _ c.requires.declares.0 c.first_functor.ensures refl c.requires.stands c.if-table-first_functor-eq0.true

pub place_ok-requires : goal.place_ok-requires
place_ok-requires c = record {
  formed = (c.requires.declares.0.formed, c.requires.declares.1);
  stands = c.requires.stands;
}

pub returns : goal.returns
returns c = position_regioned _ _ _ c.requires.declares.0 c.first_functor.ensures refl c.if-table-first_functor-eq0.false c.place_ok.ensures
