use mathlib.Core.Path.{◌∙◌}
use Rattle.gumreta.proofs.gumreta_run.Goals as goal

pub returns : goal.returns
returns c = let h = c.run-r.ensures in record {
  value = c.from.ensures ∙ h.ran_as.number;
  done_after = h.ran_as.steps;
  printed_after = h.ran_as.printed;
  prints_after = h.ran_as.places;
  lent_after = h.lent_after;
}
