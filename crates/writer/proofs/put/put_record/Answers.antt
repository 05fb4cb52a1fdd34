-- Eight words, joined from the last to the first (`row_more`).
use Rattle.std.proofs.Common.{arith}
use mathlib.Core.Path.{refl, ◌∙◌}
use Rattle.writer.proofs.LaidLaws.{row_none, row_more, laid_row}
use Rattle.writer.proofs.put.put_record.Goals as goal

pub put_word-requires-6 : goal.put_word-requires-6
put_word-requires-6 c = record {
  record_bytes_in_bounds = omega (arith, c.requires.record_bytes_in_bounds, c.put_word.auto.out, c.put_word-2.auto.out, c.put_word-3.auto.out, c.put_word-4.auto.out, c.put_word-5.auto.out);
  k_lt_record_words = omega arith;
  x_lt_word_end = c.requires.small_words.1.1.1.1.1.0;
}

pub put_word-requires-7 : goal.put_word-requires-7
put_word-requires-7 c = record {
  record_bytes_in_bounds = omega (arith, c.requires.record_bytes_in_bounds, c.put_word.auto.out, c.put_word-2.auto.out, c.put_word-3.auto.out, c.put_word-4.auto.out, c.put_word-5.auto.out, c.put_word-6.auto.out);
  k_lt_record_words = omega arith;
  x_lt_word_end = c.requires.small_words.1.1.1.1.1.1.0;
}

pub put_word-requires-8 : goal.put_word-requires-8
put_word-requires-8 c = record {
  record_bytes_in_bounds = omega (arith, c.requires.record_bytes_in_bounds, c.put_word.auto.out, c.put_word-2.auto.out, c.put_word-3.auto.out, c.put_word-4.auto.out, c.put_word-5.auto.out, c.put_word-6.auto.out, c.put_word-7.auto.out);
  k_lt_record_words = omega arith;
  x_lt_word_end = c.requires.small_words.1.1.1.1.1.1.1.0;
}

pub shape_of-out : goal.shape_of-out
shape_of-out c =
    c.put_word-8.auto.out ∙ c.put_word-7.auto.out ∙ c.put_word-6.auto.out ∙ c.put_word-5.auto.out ∙ c.put_word-4.auto.out ∙ c.put_word-3.auto.out ∙ c.put_word-2.auto.out ∙ c.put_word.auto.out

pub returns : goal.returns
returns c =
    laid_row refl (row_more c.put_word.ensures (row_more c.put_word-2.ensures (row_more c.put_word-3.ensures (row_more c.put_word-4.ensures (row_more c.put_word-5.ensures (row_more c.put_word-6.ensures (row_more c.put_word-7.ensures (row_more c.put_word-8.ensures (row_none _ _ _)))))))))
