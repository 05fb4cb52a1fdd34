-- How many words there are for what a walk over goals carries. The code has the number under the same name (src/carried.rt).
use Rattle.std.specs.Prelude.{ℕ}

abbrev pub walk_words : ℕ
walk_words = 2
