use Rattle.std.proofs.Common.{rules}
use Rattle.language.specs.Numbers.{residue}
use Rattle.language.specs.Lists.{front_written}
use Rattle.language.specs.Machine.{runner_lent, print_places}
use Rattle.language.specs.Table.{table, lending, in_steps}
use Rattle.hand_sized.specs.Joined.{printing, lent_by}
use Rattle.hand_sized.proofs.run_over_in_21.Goals as goal

pub returns : goal.returns
unfolding runner_lent lending in_steps print_places front_written residue
returns c =
    let p = printing c.run.ensures.ran_as c.run.ensures.lent_after c.over.ensures (in_steps 21) table.sum_steps_spent (lent_by _ _ _ _ _ (search rules) (search rules) (search rules) (search rules)) in
    record { value = p.0; prints_after = p.1.0; free = p.1.1 }
