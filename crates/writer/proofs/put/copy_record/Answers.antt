-- What was read is what is put.
use Rattle.writer.proofs.LaidLaws.{laid_next}
use Rattle.writer.proofs.put.copy_record.Goals as goal

pub put_record-requires : goal.put_record-requires
put_record-requires c = record {
  record_bytes_in_bounds = c.requires.record_bytes_in_bounds;
  small_words = (c.word-kind.ensures.1, (c.requires.next_lt_word_end, (c.word-w2.ensures.1, (c.word-w3.ensures.1, (c.word-w4.ensures.1, (c.word-w5.ensures.1, (c.word-w6.ensures.1, (c.word-w7.ensures.1, tt))))))));
}

pub shape_of-out : goal.shape_of-out
shape_of-out c =
    c.put_record.ensures.same

pub returns : goal.returns
returns c =
    laid_next _ _ c.word-kind.ensures.0 c.word-w2.ensures.0 c.word-w3.ensures.0 c.word-w4.ensures.0 c.word-w5.ensures.0 c.word-w6.ensures.0 c.word-w7.ensures.0 c.put_record.ensures
