use mathlib.Core.Path.{ap, ◌∙◌}
use Rattle.language.specs.Numbers.{residue, in_range}
use Rattle.word_machine.specs.Machine.{literal_word}
use Rattle.frames.specs.Laws.{literal_widens, literal_range}
use Rattle.frames.proofs.numbers.literal_word.Goals as goal

pub overflow_cast-literal_number : goal.overflow_cast-literal_number
overflow_cast-literal_number c = (literal_widens _ _ c.requires c.literal_number.ensures).0

pub word_of-requires : goal.word_of-requires
word_of-requires c = ap in_range (literal_widens _ _ c.requires c.literal_number.ensures).1 ∙ literal_range _ c.requires

pub returns : goal.returns
unfolding literal_word
returns c = c.word_of.ensures ∙ ap residue (literal_widens _ _ c.requires c.literal_number.ensures).1
