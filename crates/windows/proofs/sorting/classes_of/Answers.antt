use Rattle.windows.specs.Classed.{reached_part, sorted}
use Rattle.windows.proofs.sorting.classes_of.Goals as goal

pub returns : goal.returns
returns c =
    let a = c.args in
    λ S h w.
    sorted S h (reached_part a.table.now a.at w) c.variables_in-ins.ensures c.variables_in-outs.ensures c.reach_all-inputs.ensures c.reach_all-outputs.ensures
    c.of_class-born.ensures c.of_class-dead.ensures c.union-passed.ensures c.union.ensures c.difference-kept.ensures
