use mathlib.Core.Path.{sym, ◌∙◌}
use Rattle.stages.specs.Stages.{handed_on, typing_found}
use Rattle.checking.proofs.AnswerLaws.{checker_refuses, checker_goes}
use Rattle.checking.proofs.answer.check.Goals as goal

pub returns-in_err-check_typing : goal.returns-in_err-check_typing
returns-in_err-check_typing c =
    let g = handed_on _ c.from_residual.ensures.1 in
    let k = checker_refuses _ (g ∙ sym c.in_err-check_typing.was ∙ c.check_typing.ensures) g in
    record { value = k.0; result_value = k.1 }

pub check_rules-requires : goal.check_rules-requires
check_rules-requires c = let k = typing_found _ c.check_typing.ensures c.in_ok-check_typing.was in record { formed = k.0; file_value = k.1 }

pub returns : goal.returns
returns c = let k = checker_goes _ c.check_typing.ensures c.in_ok-check_typing.was c.check_rules.ensures in record { value = k.0; result_value = k.1 }
