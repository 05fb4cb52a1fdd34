-- What stands before stays, and so do the reader's bytes, where they are known.
use Rattle.std.proofs.Common.{◌≡◌, length, take}
use Rattle.std.specs.Io.KnownBytes.{Keeps}
use Rattle.input.proofs.read_on.Given as goal

abbrev pub invariant-loop : goal.invariant-loop
invariant-loop g l = record {
  front : take l.at l.file ≡ take l.at l.initial.file;
  size : length l.file ≡ length l.initial.file;
  kept : Keeps (g.R.Read.remaining l.initial.reader) (g.R.Read.remaining l.reader);
}
