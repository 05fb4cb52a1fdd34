use mathlib.Core.Path.{refl}
use Rattle.liveness.proofs.StepLaws.{step_keeps_law, step_breaks}
use Rattle.std.proofs.Common.{rules}
use Rattle.liveness.proofs.step.step.Goals as goal

pub returns-then-classes_kept : goal.returns-then-classes_kept
returns-then-classes_kept c = search (step_keeps_law, rules)

pub returns : goal.returns
returns c =
    step_breaks _ _ _ refl c.live_step-before.ensures c.classes_kept.ensures c.if-classes_kept.false
    (record { live_is = refl; place_is = refl; classes_is = refl; wants_is = refl }) c.put_point-2.ensures
