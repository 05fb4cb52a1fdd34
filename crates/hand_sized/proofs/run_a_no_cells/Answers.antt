use Rattle.std.proofs.Common.{rules}
use Rattle.language.specs.Machine.{runner_lent}
use Rattle.language.specs.Table.{table, lending, no_cells}
use Rattle.hand_sized.specs.Joined.{not_run, lent_by}
use Rattle.hand_sized.proofs.run_a_no_cells.Goals as goal

pub returns : goal.returns
unfolding runner_lent lending no_cells
returns c =
    let p = not_run c.run.ensures.ran_as c.run.ensures.lent_after c.a.ensures no_cells table.no_cell_law table.A-checked (lent_by _ _ _ _ _ (search rules) (search rules) (search rules) (search rules)) in
    record { value = p.0; untouched = p.1 }
