use mathlib.Core.Path.{refl}
use Rattle.std.proofs.Common.{rules}
use Rattle.language.specs.Answers.{stop_number}
use Rattle.language.specs.Lists.{front_written}
use Rattle.language.specs.Machine.{runner_lent, print_places}
use Rattle.language.specs.Table.{table, silent, lending, in_steps}
use Rattle.hand_sized.specs.Joined.{printing, lent_by}
use Rattle.hand_sized.proofs.run_new_u_no_steps.Goals as goal

pub returns : goal.returns
unfolding stop_number runner_lent lending in_steps silent print_places front_written
returns c =
    let p = printing c.run.ensures.ran_as c.run.ensures.lent_after c.new_u.ensures (in_steps 0) table.new_u_no_steps (lent_by _ _ _ _ _ (search rules) (search rules) (search rules) (search rules)) in
    record { value = p.0; stop_number_value = refl; prints_unchanged = p.1.0; free = p.1.1 }
