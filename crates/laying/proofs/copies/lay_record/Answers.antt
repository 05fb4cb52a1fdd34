use Rattle.std.proofs.Common.{rules}
use Rattle.laying.proofs.CopiesLaws.{record_ready, record_laid, record_not}
use Rattle.laying.proofs.copies.lay_record.Goals as goal

pub skip_record-end-requires : goal.skip_record-end-requires
skip_record-end-requires c = search rules

pub write_record-requires : goal.write_record-requires
write_record-requires c = search (record_ready, rules)

pub returns-then-has_room : goal.returns-then-has_room
returns-then-has_room c = search (record_laid, rules)

pub returns-else-has_room : goal.returns-else-has_room
returns-else-has_room c = search (record_not, rules)
