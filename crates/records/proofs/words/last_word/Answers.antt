-- Past the file every word is 0, else each byte by itself. Assumes nothing.
use mathlib.Core.Path.{sym}
use Rattle.std.proofs.Common.{arith, rules}
use Rattle.language.specs.File.{word}
use Rattle.records.specs.Words.{word_past}
use Rattle.records.proofs.words.last_word.Goals as goal

pub returns-then-i-file : goal.returns-then-i-file
returns-then-i-file c = (sym (word_past _ _ _ (omega arith)), omega arith)

pub returns : goal.returns
unfolding word
returns c = search rules
