-- What bytes, words and kinds' numbers are below, and how many words a record has. The code has the numbers under the same names (src/sizes.rt).
use Rattle.std.specs.Prelude.{ℕ}

abbrev pub byte_end : ℕ
byte_end = 256

abbrev pub word_end : ℕ
word_end = 65536

abbrev pub record_words : ℕ
record_words = 8

abbrev pub kinds_end : ℕ
kinds_end = 22

-- the record table has a hex digit a word
abbrev pub digit_end : ℕ
digit_end = 16
