use mathlib.Core.Path.{◌∙◌}
use Rattle.tables.specs.Walks.{reach_all_is}
use Rattle.insertion.proofs.WantedLaws.{wanted_is}
use Rattle.insertion.proofs.wanted.wanted_in.Goals as goal

pub returns : goal.returns
returns c = λ f S w. wanted_is S _ (c.set_at-kept.ensures ∙ w.kept) (reach_all_is w _ c.reach_all.ensures) c.union.ensures
