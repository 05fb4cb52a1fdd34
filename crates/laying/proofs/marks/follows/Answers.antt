use Rattle.laying.proofs.MarksLaws.{follows_is}
use Rattle.laying.proofs.marks.follows.Goals as goal

pub returns : goal.returns
returns c =
    follows_is _ _ c.after.ensures c.more.ensures.value c.more.ensures.value_2
