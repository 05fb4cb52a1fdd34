use Rattle.std.proofs.Common.{arith}
use Rattle.annotation.specs.Answer.{refusal_told}
use Rattle.annotation.proofs.RoomLaws.{too_large, too_long, file_told}
use Rattle.annotation.proofs.answer.write_annotated.Goals as goal

pub lay_annotated-records-requires : goal.lay_annotated-records-requires
lay_annotated-records-requires c = record {
  unrefused = c.requires.unrefused;
  points_len = c.requires.points_len;
  max_bytes_value = c.blank_laid-laid.ensures;
}

pub returns-then-records-gt-MAX_RECORDS : goal.returns-then-records-gt-MAX_RECORDS
returns-then-records-gt-MAX_RECORDS c =
    refusal_told _ (too_large _ _ _ c.lay_annotated-records.ensures.value c.lay_annotated-records.ensures.lower_bound c.if-records-gt-MAX_RECORDS.true)

pub returns-then-room-bytes : goal.returns-then-room-bytes
returns-then-room-bytes c =
    refusal_told _ (too_long _ _ _ c.lay_annotated-records.ensures.value c.lay_annotated-records.ensures.lower_bound c.if-records-gt-MAX_RECORDS.false c.requires.room_in c.if-room-bytes.true)

pub write-requires : goal.write-requires
write-requires c = record {
  bytes_le_max_bytes = omega (arith, c.if-records-gt-MAX_RECORDS.false);
  max_bytes_value = c.lay_annotated-records.ensures.max_bytes_value_2;
  bytes_in_bounds = omega (arith, c.if-room-bytes.false, c.requires.room_in.0);
}

pub returns : goal.returns
returns c =
    let e = c.lay_annotated-records.ensures in
    file_told _ _ _ e.value e.lower_bound c.if-records-gt-MAX_RECORDS.false _ (omega (arith, c.if-room-bytes.false, c.requires.room_in.0)) (e.laid_after c.if-records-gt-MAX_RECORDS.false) c.write.ensures
