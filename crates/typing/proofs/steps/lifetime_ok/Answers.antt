use mathlib.Core.Logic.{inl, inr}
use Rattle.typing.proofs.StepsLaws.{create_is, remove_is}
use Rattle.std.proofs.Common.{rules}
use Rattle.typing.proofs.steps.lifetime_ok.Goals as goal

pub word-requires : goal.word-requires
word-requires c = search rules

pub returns : goal.returns
returns c = elim c.requires.create.0 [ inl n ↦ create_is c.requires.formed.0 c.requires.formed.1 _ c.word.ensures.0 c.region.ensures n | inr n ↦ remove_is c.requires.formed.0 c.requires.formed.1 _ c.word.ensures.0 c.region.ensures n ]
