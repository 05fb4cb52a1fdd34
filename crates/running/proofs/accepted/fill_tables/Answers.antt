use Rattle.records.specs.Blank.{blank_fits}
use Rattle.tables.specs.TablePlaces.{file_words}
use Rattle.plans.specs.Plan.{callees_words}
use Rattle.running.specs.Answer.{accepted_typed}
use Rattle.running.specs.Planned.{blank_length}
use Rattle.running.proofs.accepted.fill_tables.Goals as goal

pub list_procedures-requires : goal.list_procedures-requires
list_procedures-requires c = let a = accepted_typed c.requires.file_value in record {
  formed = a.0;
  file_value = a.1;
  file_words_in_bounds = blank_fits file_words c.blank_file_table-table.ensures;
}

pub fill_plan-requires : goal.fill_plan-requires
fill_plan-requires c = let a = accepted_typed c.requires.file_value in record {
  typed_and_filled = record { formed = a.0; typed = a.1; windows = c.list_procedures.ensures.file_table };
  plan_value = c.requires.plan_value.0;
  images_value = c.requires.plan_value.1;
  callees_len = blank_length callees_words c.requires.plan_value.2;
}

pub returns : goal.returns
returns c =
    let e = c.fill_plan.ensures in
    record { accepted = c.requires.file_value; tabled = e.tabled; narrow = e.narrow; numbered = e.numbered }
