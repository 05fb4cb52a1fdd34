-- A call that repeats the last one has its images.
use Rattle.std.proofs.Common.{rules}
use mathlib.Core.Path.{refl, ap, sym, ◌∙◌}
use Rattle.tables.specs.Starts.{window_in, window_lent}
use Rattle.regions.specs.Here.{here}
use Rattle.regions.specs.CallEffect.{call_window}
use Rattle.plans.specs.Images.{found_again}
use Rattle.plans.proofs.images.next_images.Goals as goal

pub returns-then-word-ne-CALL : goal.returns-then-word-ne-CALL
returns-then-word-ne-CALL c = search rules

pub repeats-requires : goal.repeats-requires
repeats-requires c = search rules

pub returns-then-repeats : goal.returns-then-repeats
returns-then-repeats c = let G = c.requires.given in let H = here G c.args.i c.requires.i_nonzero.0 c.requires.i_nonzero.1 (window_lent c.args.table.now _ c.start_of-own.ensures.value ∙ ap (window_in c.args.table.now) c.owner_of.ensures) in record {
  last_call_2 = found_again G H c.requires.last_call (c.repeats.ensures c.if-repeats.true);
  value = λ k. refl;
}

pub call_images-requires : goal.call_images-requires
call_images-requires c = let G = c.requires.given in let H = here G c.args.i c.requires.i_nonzero.0 c.requires.i_nonzero.1 (window_lent c.args.table.now _ c.start_of-own.ensures.value ∙ ap (window_in c.args.table.now) c.owner_of.ensures) in record {
  call_here = call_window H (sym c.word.ensures.0 ∙ c.if-word-ne-CALL.false) G.windows c.word-2.ensures.0 (window_lent c.args.table.now _ c.start_of-callee.ensures.value);
  found_len = c.requires.last_call.regions.room;
}

pub returns : goal.returns
returns c = search rules
