use mathlib.Core.Path.{ap, ◌∙◌}
use Rattle.language.specs.Typing.{has_type}
use Rattle.std.proofs.Common.{rules}
use Rattle.typing.proofs.steps.is_number.Goals as goal

pub word-requires : goal.word-requires
word-requires c = search rules

pub has_type-requires : goal.has_type-requires
has_type-requires c = search rules

pub returns : goal.returns
returns c = c.has_type.ensures ∙ ap (has_type _ 0) c.word.ensures.0
