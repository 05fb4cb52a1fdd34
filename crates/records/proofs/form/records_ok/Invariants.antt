-- Invariant: the records still ahead decide. Assumes nothing.
use Rattle.language.specs.File.{word}
use Rattle.records.proofs.Loops.{Records}
use Rattle.records.proofs.form.records_ok.Given as goal

abbrev pub invariant-loop-i : goal.invariant-loop-i
invariant-loop-i l = Records (word l.file) l.n l.initial.seen l.seen l.i
