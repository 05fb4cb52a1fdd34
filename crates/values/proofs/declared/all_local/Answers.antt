use Rattle.values.proofs.Entry.{local_first, local_next, local_stop, local_last}
use Rattle.chains.specs.Is.{chain_next}
use Rattle.chains.specs.Shapes.{variable_here}
use Rattle.chains.specs.Formed.{variables_none}
use mathlib.Core.Path.{sym, ◌∙◌}
use Rattle.values.proofs.declared.all_local.Goals as goal

pub loop-i-init : goal.loop-i-init
loop-i-init c = (c.requires.stands, local_first _)

pub returns-then-word-ne0 : goal.returns-then-word-ne0
returns-then-word-ne0 c =
    let v = variable_here c.requires.formed c.loop-i-test.true c.loop-i.invariant.0 in
    local_stop c.loop-i.invariant.1 v.view (λ q. c.if-word-ne0.true (c.word.ensures.0 ∙ q))

pub loop-i-smaller : goal.loop-i-smaller
loop-i-smaller c =
    (chain_next c.requires.formed c.loop-i.invariant.0 c.loop-i-test.true c.word-i.ensures.0).falls

pub loop-i-preserved : goal.loop-i-preserved
loop-i-preserved c =
    let v = variable_here c.requires.formed c.loop-i-test.true c.loop-i.invariant.0 in
    let n = chain_next c.requires.formed c.loop-i.invariant.0 c.loop-i-test.true c.word-i.ensures.0 in
    (n.stands, rw c.word-i.ensures.0 (local_next c.loop-i.invariant.1 v.view (sym c.word.ensures.0 ∙ c.if-word-ne0.false)))

pub returns : goal.returns
returns c = local_last c.loop-i.invariant.1 (variables_none _ c.loop-i-test.false)
