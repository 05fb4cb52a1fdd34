use Prim.Native.Nat.{◌<◌}
use Rattle.std.proofs.Common.{arith}
use mathlib.Core.Path.{ap, ◌∙◌}
use Rattle.language.specs.Format.{max_records}
use Rattle.chains.specs.Formed.{counted}
use Rattle.tables.specs.Starts.{window_in, window_lent}
use Rattle.regions.specs.Here.{here}
use Rattle.regions.specs.CallEffect.{call_window}
use Rattle.regions.proofs.RepeatsLaws.{repeated_agrees, repeated_made}
use Rattle.regions.proofs.RowedLaws.{rowed_put}
use Rattle.regions.proofs.pass.next_call_ok.Goals as goal

pub put_effect-requires : goal.put_effect-requires
put_effect-requires c =
    let b = c.requires.i_nonzero.1 in
    omega (arith, (counted c.requires.given.formed).most, b)

pub returns-then-repeats : goal.returns-then-repeats
returns-then-repeats c = let G = c.requires.given in let H = here G c.args.i c.requires.i_nonzero.0 c.requires.i_nonzero.1 (window_lent c.args.table.now _ c.start_of-start.ensures.value ∙ ap (window_in c.args.table.now) c.owner_of.ensures) in let R = c.repeats.ensures c.if-repeats.true in let few : c.args.i < max_records = let l = c.requires.i_nonzero.1 in omega (arith, (counted G.formed).most, l) in record {
  value = repeated_agrees G H c.requires.before R;
  rowed = rowed_put c.args.file.now c.args.i c.args.rows.now few c.requires.row_words_in_bounds c.put_effect.ensures (repeated_made G H c.requires.before R c.effect_at-effect.ensures);
}

pub call_ok-requires : goal.call_ok-requires
call_ok-requires c = let H = here c.requires.given c.args.i c.requires.i_nonzero.0 c.requires.i_nonzero.1 (window_lent c.args.table.now _ c.start_of-start.ensures.value ∙ ap (window_in c.args.table.now) c.owner_of.ensures) in record {
  call_here = call_window H c.requires.i_nonzero.2 c.requires.given.windows c.word.ensures.0 (window_lent c.args.table.now _ c.start_of-callee.ensures.value);
  row_words_in_bounds = c.requires.row_words_in_bounds;
}

pub returns : goal.returns
returns c = record {
  value = c.call_ok.ensures.value;
  rowed = c.call_ok.ensures.rowed;
}
