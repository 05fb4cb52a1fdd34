-- `read_input`: the parts together are what the reader gave.
use Rattle.std.proofs.Common.{subst, ◌∙◌}
use Rattle.std.specs.Io.KnownBytes.{Consumes}
use Rattle.std.proofs.KnownBytes.{Consumes-trans}
use Rattle.input.proofs.Parts.{front_and_part}
use Rattle.input.proofs.read_input.Goals as goal

pub loop-at-preserved : goal.loop-at-preserved
loop-at-preserved g c =
    let whole = front_and_part c.loop-at.at c.in_ok-end.end c.loop-at.file c.read_on.new.file c.in_ok-end.ensures.at_le_result c.read_on.ensures.file_unchanged in
    record {
      fits = c.in_ok-end.ensures.fits.0;
      size = c.read_on.auto.file ∙ c.loop-at.invariant.size;
      bytes = subst (Consumes (g.R.Read.remaining c.args.reader.now) (g.R.Read.remaining c.read_on.new.reader)) whole
          (Consumes-trans _ _ _ _ _ c.loop-at.invariant.bytes c.in_ok-end.ensures.bytes);
    }
