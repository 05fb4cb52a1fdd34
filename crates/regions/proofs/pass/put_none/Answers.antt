use mathlib.Core.Path.{refl, ap, ◌∙◌}
use Rattle.tables.specs.Rows.{put_effect}
use Rattle.regions.proofs.pass.put_none.Goals as goal

pub returns : goal.returns
returns c = (refl, c.put_effect.ensures ∙ ap (put_effect _ _) c.region_effect.ensures)
