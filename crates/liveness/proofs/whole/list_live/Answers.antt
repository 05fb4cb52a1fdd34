-- There is room for all points.
use Rattle.liveness.proofs.Walking.{list_done, list_classes}
use Rattle.std.proofs.Common.{rules, arith}
use mathlib.Core.Path.{◌∙◌}
use Rattle.liveness.proofs.whole.list_live.Goals as goal

pub goals-requires : goal.goals-requires
goals-requires c = search rules

pub returns : goal.returns
returns c = let k = c.list_wants.ensures in let g = c.goals.ensures in record {
  table_len_2 = g.fills.same ∙ c.requires.table_len;
  list_done = list_done _ k g c.requires.formed c.requires.stands (omega (arith, c.requires.table_len));
  list_classes = list_classes _ k g;
}
