use mathlib.Core.Path.{sym, ap, ◌∙◌}
use lib.ListN.{get_or-eq_default}
use Rattle.sets.specs.Sets.{loaded, loaded_zero}
use Rattle.tables.specs.Window.{set_in}
use Rattle.std.proofs.Common.{rules}
use Rattle.tables.proofs.window.set_at.Goals as goal

pub returns-then-k-own : goal.returns-then-k-own
unfolding set_in
returns-then-k-own c = search rules

pub returns-else-k-own : goal.returns-else-k-own
unfolding set_in
returns-else-k-own c = sym loaded_zero ∙ ap loaded (sym (get_or-eq_default c.args.own.now 0 c.if-k-own.false))
