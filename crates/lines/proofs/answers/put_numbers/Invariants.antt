-- The words before `word` are put, 12 bytes each at most.
use Prim.Native.Nat.{◌+◌, ◌*◌, ◌≤◌}
use lib.ListN.{length, take}
use Rattle.lines.specs.Widths.{number_bytes}
use Rattle.lines.specs.Put.{Put}
use Rattle.lines.specs.Signed.{numbers}
use Rattle.lines.proofs.answers.put_numbers.Given as goal

abbrev pub invariant-loop-word : goal.invariant-loop-word
invariant-loop-word l = (l.word-index ≤ length l.words) × (l.end ≤ l.at + number_bytes * l.word-index) × Put l.initial.out l.at (numbers (take l.word-index l.words)) l.out l.end
