-- One law for each test of number 1. Assumes nothing.
use Rattle.std.proofs.Common.{arith}
use Rattle.records.proofs.Stages.{header_short, header_long, header_count_law, header_kind_law}
use Rattle.records.proofs.words.header_ok.Goals as goal

pub returns-then-file-lt-RECORD_BYTES : goal.returns-then-file-lt-RECORD_BYTES
returns-then-file-lt-RECORD_BYTES c = header_short _ (omega arith)

pub returns-then-file-gt-MAX_BYTES : goal.returns-then-file-gt-MAX_BYTES
returns-then-file-gt-MAX_BYTES c = header_long _ (omega arith) (omega arith)

pub returns-then-file-word : goal.returns-then-file-word
returns-then-file-word c = header_count_law _ (omega arith) (omega arith) c.word.ensures.0 c.if-file-word.true

pub returns : goal.returns
returns c = header_kind_law _ (omega arith) (omega arith) c.word.ensures.0 c.if-file-word.false c.word-2.ensures.0
