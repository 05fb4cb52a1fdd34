use Rattle.std.proofs.Common.{rules}
use Rattle.language.specs.Numbers.{residue}
use Rattle.language.specs.Lists.{front_written}
use Rattle.language.specs.Machine.{runner_lent, print_places}
use Rattle.language.specs.Table.{table}
use Rattle.hand_sized.specs.Joined.{printing, lent_by}
use Rattle.hand_sized.proofs.run_both_ends.Goals as goal

pub returns : goal.returns
unfolding runner_lent print_places front_written residue
returns c =
    let p = printing c.run.ensures.ran_as c.run.ensures.lent_after c.both_ends.ensures runner_lent table.both_ends (lent_by _ _ _ _ _ (search rules) (search rules) (search rules) (search rules)) in
    record { value = p.0; prints_after = p.1.0; free = p.1.1 }
