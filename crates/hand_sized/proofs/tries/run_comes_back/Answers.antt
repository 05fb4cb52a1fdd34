use Rattle.std.proofs.Common.{rules}
use Rattle.language.specs.Lists.{front_written}
use Rattle.language.specs.Machine.{runner_lent, print_places}
use Rattle.language.specs.Table.{silent}
use Rattle.language.specs.Conditional.{tried_table}
use Rattle.hand_sized.specs.Joined.{printing, lent_by}
use Rattle.hand_sized.proofs.tries.run_comes_back.Goals as goal

pub returns : goal.returns
unfolding runner_lent silent print_places front_written
returns c =
    let p = printing c.run.ensures.ran_as c.run.ensures.lent_after c.comes_back.ensures runner_lent tried_table.comes_back (lent_by _ _ _ _ _ (search rules) (search rules) (search rules) (search rules)) in
    record { value = p.0; prints_unchanged = p.1.0; free = p.1.1 }
