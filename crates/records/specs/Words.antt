-- Words past the end of a file. Assumes nothing.
use Rattle.std.specs.Prelude.{ℕ, ◌+◌, ◌*◌, ◌≤◌, ◌≡◌, List, length}
use Rattle.std.proofs.Common.{arith}
use Rattle.std.proofs.Math.ListN.{get_or-eq_default}
use Rattle.language.specs.File.{word}
use Rattle.language.specs.Format.{record_bytes}

module _ (f : List ℕ) (i k : ℕ) where
  -- what is past the end is 0
  pub word_past : length f ≤ record_bytes * i → word f i k ≡ 0
  unfolding word
  word_past h =
      rw (get_or-eq_default f 0 {n = record_bytes * i + 2 * k} (omega arith), get_or-eq_default f 0 {n = record_bytes * i + 2 * k + 1} (omega arith))
