-- The file has its records whole.
use Rattle.std.proofs.Common.{arith}
use Rattle.chains.specs.Formed.{counted}
use Rattle.chains.proofs.words.word.Goals as goal

pub word_in-requires : goal.word_in-requires
word_in-requires c = let n = counted c.requires.formed in (omega arith, omega arith)
