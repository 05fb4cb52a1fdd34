use mathlib.Core.Path.{ap₂, ◌∙◌}
use Rattle.accesses.specs.Gathering.{given_in}
use Rattle.accesses.proofs.FittingLaws.{four_gathered}
use Rattle.accesses.proofs.steps.construct_access.Goals as goal

pub returns : goal.returns
returns c =
    c.give.ensures
    ∙ ap₂ given_in (four_gathered _ _ c.no_access.ensures c.word.ensures.0 c.read-a1.ensures c.word-2.ensures.0 c.read-a2.ensures c.word-3.ensures.0 c.read-a3.ensures c.word-4.ensures.0 c.read-a4.ensures) c.word-5.ensures.0
