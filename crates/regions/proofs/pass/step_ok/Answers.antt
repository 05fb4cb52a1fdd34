use mathlib.Core.Path.{ap, ◌∙◌}
use Rattle.tables.specs.Starts.{window_in, window_lent}
use Rattle.regions.specs.Here.{here}
use Rattle.regions.proofs.pass.step_ok.Goals as goal

pub row_ok-requires : goal.row_ok-requires
row_ok-requires c =
    record {
      here = here c.requires.given c.args.i c.requires.i_nonzero.0 c.requires.i_nonzero.1 (window_lent c.args.table.now _ c.start_of-start.ensures.value ∙ ap (window_in c.args.table.now) c.owner_of.ensures);
      fact = c.requires.fact;
      row_words_in_bounds = c.requires.row_words_in_bounds;
      firsts = c.requires.firsts;
    }

pub returns : goal.returns
returns c = record { value = c.row_ok.ensures.value; rowed = c.row_ok.ensures.rowed; firsts_2 = c.row_ok.ensures.firsts_2 }
