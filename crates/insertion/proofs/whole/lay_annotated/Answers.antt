use Rattle.std.proofs.Common.{rules}
use mathlib.Core.Path.{sym, ◌∙◌}
use Rattle.insertion.proofs.WholeLaws.{laid_fits, laid_over, file_front}
use Rattle.insertion.proofs.whole.lay_annotated.Goals as goal

pub lay_file-records-requires : goal.lay_file-records-requires
lay_file-records-requires c = search rules

pub returns : goal.returns
returns c = let e = c.lay_file-records.ensures in record {
  points_len_2 = e.points_len_2;
  max_bytes_value_2 = c.requires.max_bytes_value ∙ sym e.lays.same;
  value = laid_fits _ e.lays;
  lower_bound = laid_over _ e.lays;
  laid_after = file_front _ c.are_bytes.ensures c.requires.max_bytes_value e.lays;
}
