-- Two stores make the word (`put_made`).
use Rattle.std.proofs.Common.{arith}
use lib.ListN.{length-set}
use Rattle.writer.proofs.LaidLaws.{put_made}
use Rattle.writer.proofs.put.put_word.Goals as goal

pub bounds-out-at-2 : goal.bounds-out-at-2
bounds-out-at-2 c = simp length-set (omega arith)

pub returns : goal.returns
returns c = put_made _ _ _ _ c.requires.record_bytes_in_bounds c.requires.k_lt_record_words c.low.ensures c.high.ensures
