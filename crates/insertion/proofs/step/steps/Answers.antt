use Rattle.insertion.proofs.AlongLaws.{along_first, along_onward, along_next}
use Rattle.insertion.proofs.step.steps.Goals as goal

pub loop-i-init : goal.loop-i-init
loop-i-init c =
    along_first _ _ _ _ _ _ _ c.requires.stands

pub loop-i-smaller : goal.loop-i-smaller
loop-i-smaller c =
    (along_onward c.loop-i.invariant c.requires.formed c.loop-i-test.true c.word-i.ensures.0).falls

pub loop-i-preserved : goal.loop-i-preserved
loop-i-preserved c =
    along_next c.loop-i.invariant c.requires.formed c.loop-i-test.true c.step.ensures c.word-i.ensures.0
