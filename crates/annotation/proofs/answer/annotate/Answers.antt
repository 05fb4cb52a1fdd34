use mathlib.Core.Path.{sym, ◌∙◌}
use Rattle.stages.specs.Stages.{handed_on, typing_found}
use Rattle.annotation.specs.Answer.{refusal_told, stage_refuses, stage_goes, answer_moved, all_stages}
use Rattle.annotation.proofs.answer.annotate.Goals as goal

pub returns-in_err-check_typing : goal.returns-in_err-check_typing
returns-in_err-check_typing c =
    let g = handed_on _ c.from_residual.ensures.1 in
    rw g (refusal_told _ (sym (all_stages _ _) ∙ stage_refuses _ _ _ c.check_typing.ensures c.in_err-check_typing.was))

pub annotate_typed-requires : goal.annotate_typed-requires
annotate_typed-requires c =
    let h = typing_found _ c.check_typing.ensures c.in_ok-check_typing.was in
    record { formed = h.0; file_value = h.1 }

pub returns : goal.returns
returns c = answer_moved _ (sym (all_stages _ _) ∙ stage_goes _ _ _ c.check_typing.ensures c.in_ok-check_typing.was) c.annotate_typed.ensures
