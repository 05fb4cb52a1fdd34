use mathlib.Core.Path.{sym, ◌∙◌}
use Rattle.stages.specs.Stages.{handed_on, not_accepted}
use Rattle.stages.proofs.StagesLaws.{values_refused, regions_found, middle_refused, classes_refused, tables_passed, tabled_values, tabled_middle, tabled_all}
use Rattle.stages.proofs.Owned.{prepared}
use Rattle.std.proofs.Common.{rules}
use Rattle.stages.proofs.lowest.check_classes.Goals as goal

pub list_procedures-right-requires : goal.list_procedures-right-requires
list_procedures-right-requires c = search rules

pub values_ok-requires : goal.values_ok-requires
values_ok-requires c = search rules

pub returns-then-not-values_ok : goal.returns-then-not-values_ok
returns-then-not-values_ok c = let l = c.list_procedures-right.ensures in let n = c.values_ok.ensures in record {
  value = values_refused _ n.value c.if-not-values_ok.true;
  prepared = not_accepted;
  tables_after = tabled_values l.file_table l.only_windows n.all_noted n.rows_kept;
}

pub check_regions-requires : goal.check_regions-requires
check_regions-requires c = record {
  formed = c.requires.formed;
  file_value = c.requires.file_value;
  file_table = c.list_procedures-right.ensures.file_table;
  row_words_in_bounds = search rules;
}

pub returns-in_err-check_regions : goal.returns-in_err-check_regions
returns-in_err-check_regions c = let l = c.list_procedures-right.ensures in let n = c.values_ok.ensures in let r = c.check_regions.ensures in let g = handed_on _ c.from_residual.ensures.1 in let v = g ∙ sym c.in_err-check_regions.was ∙ r.value in record {
  value = middle_refused _ n.value c.if-not-values_ok.false v g;
  prepared = (λ e. not_accepted (sym g ∙ e));
  tables_after = tabled_middle l.file_table l.only_windows n.all_noted n.rows_kept v r.after_pass;
}

pub returns-then-not-right : goal.returns-then-not-right
returns-then-not-right c = let l = c.list_procedures-right.ensures in let n = c.values_ok.ensures in let r = c.check_regions.ensures in let t = c.in_ok-check_regions.was in record {
  value = classes_refused _ n.value c.if-not-values_ok.false r.value t l.value c.if-not-right.true;
  prepared = not_accepted;
  tables_after = tabled_all l.file_table l.only_windows n.all_noted n.rows_kept r.after_pass (regions_found _ r.value t);
}

pub returns : goal.returns
returns c = let l = c.list_procedures-right.ensures in let n = c.values_ok.ensures in let r = c.check_regions.ensures in let t = c.in_ok-check_regions.was in let y = regions_found _ r.value t in record {
  value = tables_passed _ n.value c.if-not-values_ok.false r.value t l.value c.if-not-right.false;
  prepared = (λ e. prepared c.requires.formed c.requires.file_value l.file_table n.all_noted r.after_pass y);
  tables_after = tabled_all l.file_table l.only_windows n.all_noted n.rows_kept r.after_pass y;
}
