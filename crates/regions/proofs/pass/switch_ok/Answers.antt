use mathlib.Core.Path.{ap, ◌∙◌}
use Rattle.tables.specs.Starts.{window_in, window_lent}
use Rattle.regions.specs.Here.{here}
use Rattle.regions.proofs.pass.switch_ok.Goals as goal

pub record_ok-requires : goal.record_ok-requires
record_ok-requires c =
    record {
      here = here c.requires.given c.args.i c.requires.i_nonzero.0 c.requires.i_nonzero.1 (window_lent c.args.table.now _ c.start_of-start.ensures.value ∙ ap (window_in c.args.table.now) c.owner_of.ensures);
      fact = c.requires.fact;
      firsts = c.requires.firsts;
    }
