use mathlib.Core.Path.{sym, ◌∙◌}
use Rattle.language.specs.declared.Refusal.TheVariants.{Typing}
use Rattle.stages.specs.Stages.{shape_found, handed_on, passed_up, refused_here, passed_here}
use Rattle.stages.proofs.lowest.check_typing.Goals as goal

pub returns-in_err-check_shape : goal.returns-in_err-check_shape
returns-in_err-check_shape c = let g = handed_on _ c.from_residual.ensures.1 in passed_up _ Typing _ (g ∙ sym c.in_err-check_shape.was ∙ c.check_shape.ensures) g

pub typing_ok-requires : goal.typing_ok-requires
typing_ok-requires c = (shape_found _ c.check_shape.ensures c.in_ok-check_shape.was).0

pub returns-then-not-typing_ok : goal.returns-then-not-typing_ok
returns-then-not-typing_ok c = refused_here _ Typing c.check_shape.ensures c.in_ok-check_shape.was (sym c.typing_ok.ensures ∙ c.if-not-typing_ok.true)

pub returns : goal.returns
returns c = passed_here _ Typing c.check_shape.ensures c.in_ok-check_shape.was (sym c.typing_ok.ensures ∙ c.if-not-typing_ok.false)
