use Rattle.regions.proofs.EffectsLaws.{construct_made, create_made, remove_made, none_made}
use mathlib.Core.Path.{refl}
use Rattle.std.proofs.Common.{rules}
use Rattle.regions.proofs.effects.step_effect.Goals as goal

pub goal-requires : goal.goal-requires
goal-requires c = let s = c.requires.fact.1.1 in record { formed = c.requires.here.formed; stands = (s.stands, s.some) }

pub returns-in-Construct : goal.returns-in-Construct
returns-in-Construct c =
    construct_made c.requires.here refl c.in-Construct.ensures c.word.ensures.0 c.home.ensures c.region_effect.ensures

pub returns-in-Create : goal.returns-in-Create
returns-in-Create c = create_made c.requires.here refl c.in-Create.ensures c.word-in-Create.ensures.0 c.region_effect-in-Create.ensures

pub returns-in-Remove : goal.returns-in-Remove
returns-in-Remove c = remove_made c.requires.here refl c.in-Remove.ensures c.word-r.ensures.0 c.region_effect-in-Remove.ensures

pub returns-in_default : goal.returns-in_default
returns-in_default c =
    none_made c.requires.here refl (search rules) (search rules) (search rules) c.requires.fact.0 c.requires.fact.1 c.region_effect-in_default.ensures
