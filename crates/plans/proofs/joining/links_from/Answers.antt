use Rattle.plans.specs.Ways.{links_in, links_out}
use Rattle.plans.proofs.joining.links_from.Goals as goal

pub returns-then-mode-eq-MODE_IN : goal.returns-then-mode-eq-MODE_IN
returns-then-mode-eq-MODE_IN c = links_in _ c.if-mode-eq-MODE_IN.true

pub returns-else-mode-eq-MODE_IN : goal.returns-else-mode-eq-MODE_IN
returns-else-mode-eq-MODE_IN c = links_out _ c.if-mode-eq-MODE_IN.false
