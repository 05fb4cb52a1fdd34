use mathlib.Core.Path.{ap, ◌∙◌}
use Rattle.word_machine.specs.Machine.{literal_word}
use Rattle.machine.proofs.GoalsLaws.{gives}
use Rattle.machine.proofs.goals.literal.Goals as goal

pub returns : goal.returns
returns c = gives c.args.at _ _ _ _ c.args.frames.now _ c.give.ensures c.word_in.ensures.0 (c.literal_word.ensures ∙ ap literal_word c.word_in-v.ensures.0)
