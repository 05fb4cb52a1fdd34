-- Invariant: the words still ahead decide; the digits fall. Assumes nothing.
use Prim.Native.Nat.{◌/◌}
use Rattle.language.specs.File.{word}
use Rattle.records.specs.Sizes.{digit_end}
use Rattle.records.proofs.Loops.{Words}
use Rattle.records.proofs.form.refers_ok.Given as goal

abbrev pub invariant-loop-k : goal.invariant-loop-k
invariant-loop-k l = Words (word l.file) l.n l.i l.initial.seen l.seen (l.row / digit_end) l.k
