-- `read_part`: the bytes of the part are those that the reader gave.
use Rattle.std.proofs.Common.{subst, sym}
use Rattle.std.specs.Io.KnownBytes.{Consumes}
use Rattle.input.proofs.Parts.{part_of_read}
use Rattle.input.proofs.read_part.Goals as goal

pub returns-clause-bytes : goal.returns-clause-bytes
returns-clause-bytes g c =
    subst (Consumes (g.R.Read.remaining c.args.reader.now) (g.R.Read.remaining c.read.new.self))
    (sym (part_of_read c.args.at c.in_ok-n.n _ c.args.file.now c.read.new.buf c.requires c.in_ok-n.ensures.bound.0)) c.in_ok-n.ensures.bytes.0
