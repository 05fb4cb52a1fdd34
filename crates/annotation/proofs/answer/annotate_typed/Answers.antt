use Rattle.std.proofs.Common.{arith}
use mathlib.Core.Path.{refl, sym}
use Rattle.records.specs.Blank.{blank_fits}
use Rattle.tables.specs.TablePlaces.{file_words, row_words}
use Rattle.stages.specs.Stages.{handed_on}
use Rattle.annotation.specs.Stages.{marks_found}
use Rattle.annotation.specs.Answer.{refusal_told, stage_refuses, stage_goes, answer_moved}
use Rattle.annotation.proofs.answer.annotate_typed.Goals as goal

pub check_annotatable-requires : goal.check_annotatable-requires
check_annotatable-requires c = record {
  formed = c.requires.formed;
  file_value = c.requires.file_value;
  file_words_in_bounds = (blank_fits file_words c.blank_file_table-table.ensures, blank_fits row_words c.blank_rows-rows.ensures);
  points_len = sym c.blank_points-points.ensures;
}

pub returns-in_err-check_annotatable : goal.returns-in_err-check_annotatable
returns-in_err-check_annotatable c =
    let g = handed_on _ c.from_residual.ensures.1 in
    rw g (refusal_told _ (stage_refuses _ _ _ c.check_annotatable.ensures.value c.in_err-check_annotatable.was))

pub write_annotated-requires : goal.write_annotated-requires
write_annotated-requires c = let e = c.check_annotatable.ensures in let g = c.in_ok-check_annotatable.was in record {
  unrefused = record { formed = c.requires.formed; prepared = e.prepared g; annotatable = marks_found _ c.requires.file_value e.value g };
  points_len = e.points_len_2;
  room_in = (omega arith, λ h. refl);
}

pub returns-then-lent-lt-MAX_BYTES : goal.returns-then-lent-lt-MAX_BYTES
returns-then-lent-lt-MAX_BYTES c =
    answer_moved _ (stage_goes _ _ _ c.check_annotatable.ensures.value c.in_ok-check_annotatable.was) c.write_annotated.ensures

pub write_annotated-requires-2 : goal.write_annotated-requires-2
write_annotated-requires-2 c = let e = c.check_annotatable.ensures in let g = c.in_ok-check_annotatable.was in record {
  unrefused = record { formed = c.requires.formed; prepared = e.prepared g; annotatable = marks_found _ c.requires.file_value e.value g };
  points_len = e.points_len_2;
  room_in = (c.if-lent-lt-MAX_BYTES.false, λ h. absurd (omega arith));
}

pub returns : goal.returns
returns c =
    answer_moved _ (stage_goes _ _ _ c.check_annotatable.ensures.value c.in_ok-check_annotatable.was) c.write_annotated-2.ensures
