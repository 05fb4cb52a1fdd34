-- Both bytes are there. Assumes nothing.
use Rattle.language.specs.File.{word}
use Rattle.std.proofs.Common.{rules}
use Rattle.records.proofs.words.word_in.Goals as goal

pub returns : goal.returns
unfolding word
returns c = search rules
