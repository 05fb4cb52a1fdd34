use mathlib.Core.Path.{◌∙◌}
use mir.Syntax.{w64}
use mir.Facts.{to_z-of_z}
use Rattle.machine.proofs.GoalsLaws.{value_as, sum_as}
use Rattle.std.proofs.Common.{rules}
use Rattle.machine.proofs.goals.sum.Goals as goal

pub returns : goal.returns
returns c = to_z-of_z {w = w64} (search rules) ∙ sum_as _ _ _ _ _ _ _ c.sum_of.ensures c.word_in-3.ensures.0 (value_as c.args.at _ _ _ c.args.frames.now c.value-y.ensures c.word_in.ensures.0) (value_as c.args.at _ _ _ c.args.frames.now c.value-z.ensures c.word_in-2.ensures.0)
