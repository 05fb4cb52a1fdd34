use mathlib.Core.Path.{sym, ◌∙◌}
use Rattle.language.specs.declared.Refusal.TheVariants.{Form}
use Rattle.chains.specs.Formed.{formed}
use Rattle.stages.specs.Stages.{handed_on, passed_up, refused_here, passed_here}
use Rattle.stages.proofs.StagesLaws.{form_lowest}
use Rattle.stages.proofs.lowest.check_shape.Goals as goal

pub returns-in_err-check_form : goal.returns-in_err-check_form
returns-in_err-check_form c =
    let g = handed_on _ c.from_residual.ensures.1 in
    passed_up _ Form _ (g ∙ sym c.in_err-check_form.was ∙ form_lowest _ c.check_form.ensures) g

pub conditions_ok-requires : goal.conditions_ok-requires
conditions_ok-requires c = formed c.check_form.ensures c.in_ok-check_form.was

pub returns-then-not-conditions_ok : goal.returns-then-not-conditions_ok
returns-then-not-conditions_ok c = refused_here _ Form (form_lowest _ c.check_form.ensures) c.in_ok-check_form.was (sym c.conditions_ok.ensures ∙ c.if-not-conditions_ok.true)

pub returns : goal.returns
returns c = passed_here _ Form (form_lowest _ c.check_form.ensures) c.in_ok-check_form.was (sym c.conditions_ok.ensures ∙ c.if-not-conditions_ok.false)
