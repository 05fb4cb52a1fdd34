use mathlib.Core.Path.{refl}
use Rattle.std.proofs.Common.{rules}
use Rattle.plans.specs.Passes.{joined_at}
use Rattle.plans.proofs.joining.join_record.Goals as goal

pub link_of-ins-requires : goal.link_of-ins-requires
link_of-ins-requires c = search rules

pub link_of-outs-requires : goal.link_of-outs-requires
link_of-outs-requires c = search rules

pub returns : goal.returns
unfolding joined_at
returns c =
    rw (c.goal_of-goal.ensures, c.link_of-ins.ensures, c.link_of-outs.ensures) refl
