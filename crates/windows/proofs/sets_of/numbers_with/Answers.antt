use mathlib.Core.Path.{◌∙◌}
use Rattle.chains.specs.Records.{next_onward}
use Rattle.windows.specs.Numbered.{numbering_first, numbering_one, numbering_other, numbering_last}
use Rattle.windows.proofs.sets_of.numbers_with.Goals as goal
use Rattle.windows.proofs.sets_of.numbers_with.Goals.{else-word-v, then-word-v}

pub loop-i-init : goal.loop-i-init
loop-i-init c = numbering_first c.requires.formed c.requires.start_bound

pub loop-i-smaller : goal.loop-i-smaller
loop-i-smaller c = (next_onward c.requires.formed c.loop-i-test.true c.loop-i.invariant.below c.word-i.ensures.0).falls

pub loop-i-preserved : goal.loop-i-preserved
loop-i-preserved c =
    let F = c.requires.formed in
    (elim c.if-word-v.branch [ then-word-v w ↦ numbering_one F c.loop-i.invariant c.loop-i-test.true c.word.ensures.0 c.word-i.ensures.0 w.if-word-v.true w.of.ensures (w.found-is ∙ w.union-found.ensures) | else-word-v w ↦ numbering_other F c.loop-i.invariant c.loop-i-test.true c.word.ensures.0 c.word-i.ensures.0 w.if-word-v.false w.found-is ])

pub returns : goal.returns
returns c = numbering_last c.loop-i.invariant c.loop-i-test.false
