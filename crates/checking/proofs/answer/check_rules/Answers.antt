use mathlib.Core.Path.{sym, ◌∙◌}
use Rattle.language.specs.declared.Refusal.TheVariants.{Rules}
use Rattle.records.specs.Blank.{blank_fits}
use Rattle.tables.specs.TablePlaces.{file_words, row_words}
use Rattle.stages.specs.Stages.{handed_on, passed_up, refused_here, passed_here}
use Rattle.checking.proofs.answer.check_rules.Goals as goal

pub check_classes-requires : goal.check_classes-requires
check_classes-requires c = record { formed = c.requires.formed; file_value = c.requires.file_value; file_words_in_bounds = (blank_fits file_words c.blank_file_table-table.ensures, blank_fits row_words c.blank_rows-rows.ensures) }

pub returns-in_err-check_classes : goal.returns-in_err-check_classes
returns-in_err-check_classes c = let g = handed_on _ c.from_residual.ensures.1 in passed_up _ Rules _ (g ∙ sym c.in_err-check_classes.was ∙ c.check_classes.ensures.value) g

pub rules_ok-requires : goal.rules_ok-requires
rules_ok-requires c = record {
  formed = c.requires.formed;
  prepared = c.check_classes.ensures.prepared c.in_ok-check_classes.was;
}

pub returns-then-not-rules_ok : goal.returns-then-not-rules_ok
returns-then-not-rules_ok c = refused_here _ Rules c.check_classes.ensures.value c.in_ok-check_classes.was (sym c.rules_ok.ensures ∙ c.if-not-rules_ok.true)

pub returns : goal.returns
returns c = passed_here _ Rules c.check_classes.ensures.value c.in_ok-check_classes.was (sym c.rules_ok.ensures ∙ c.if-not-rules_ok.false)
