use mathlib.Core.Path.{refl}
use Rattle.called.proofs.linking.link_call.Goals as goal

pub returns : goal.returns
returns c = let w = c.from-p.ensures in record {
  links_after = rw w refl;
  lasts_after = rw (w, c.narrow.ensures) refl;
}
