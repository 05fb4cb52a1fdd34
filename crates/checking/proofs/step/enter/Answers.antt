use mathlib.Core.Path.{refl}
use Rattle.checking.proofs.RulesLaws.{entered}
use Rattle.checking.proofs.step.enter.Goals as goal

pub returns : goal.returns
returns c = (refl, λ S w. entered S _ _ _ _ w c.sound_given.ensures c.gives_at.ensures refl refl)
