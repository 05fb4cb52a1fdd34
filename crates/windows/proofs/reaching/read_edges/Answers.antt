use mathlib.Core.Path.{ap, ap₂, ◌∙◌}
use Rattle.sets.specs.Sets.{◌∪◌, loaded, loaded_stored}
use Rattle.windows.specs.Targets.{set_loaded}
use Rattle.windows.proofs.reaching.read_edges.Goals as goal

pub returns : goal.returns
returns c = let a = c.args in record {
  value = set_loaded a.targets.now a.u c.loaded.ensures;
  read_after = ap loaded c.stored.ensures ∙ loaded_stored _ ∙ c.union.ensures ∙ ap₂ ◌∪◌ c.loaded-before.ensures c.of.ensures;
}
