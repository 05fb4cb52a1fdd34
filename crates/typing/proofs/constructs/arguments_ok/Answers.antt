-- The slots that are not looked at yet decide.
use Rattle.std.proofs.Common.{rules}
use mathlib.Core.Path.{refl, ◌∙◌}
use Rattle.typing.specs.Arguments.{slots_whole, slots_stop, slots_on, slots_end}
use Rattle.typing.proofs.constructs.arguments_ok.Goals as goal

pub loop-k-init : goal.loop-k-init
loop-k-init c = refl

pub argument_ok-requires : goal.argument_ok-requires
argument_ok-requires c = search rules

pub returns-then-not-argument_ok : goal.returns-then-not-argument_ok
returns-then-not-argument_ok c = slots_stop _ _ _ _ c.loop-k-test.true c.argument_ok.ensures c.if-not-argument_ok.true ∙ c.loop-k.invariant ∙ slots_whole _ _ _ _

pub loop-k-preserved : goal.loop-k-preserved
loop-k-preserved c = slots_on _ _ _ _ c.loop-k-test.true c.argument_ok.ensures c.if-not-argument_ok.false ∙ c.loop-k.invariant

pub returns : goal.returns
returns c = slots_end _ _ _ _ c.loop-k-test.false ∙ c.loop-k.invariant ∙ slots_whole _ _ _ _
