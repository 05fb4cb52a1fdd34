use Rattle.std.proofs.Common.{rules}
use Rattle.language.specs.Machine.{runner_lent}
use Rattle.hand_sized.specs.Joined.{all_refused, lent_by}
use Rattle.hand_sized.proofs.put_to_all.Goals as goal

pub returns : goal.returns
unfolding runner_lent
returns c = all_refused _ _ (search rules) (lent_by _ _ _ _ _ (search rules) (search rules) (search rules) (search rules)) c.annotate.ensures c.check.ensures.value c.run.ensures.ran_as c.run.ensures.lent_after
