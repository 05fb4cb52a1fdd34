use Rattle.std.proofs.Common.{arith, rules}
use mathlib.Core.Path.{refl, sym, ◌∙◌}
use Rattle.frames.specs.Strays.{whole}
use Rattle.profiling.specs.Behind.{then_as, behind_as}
use Rattle.profiling.specs.Inward.{enter_opens, enter_ends}
use Rattle.profiling.proofs.trying.enter.Goals as goal

pub word_in-first-requires : goal.word_in-first-requires
word_in-first-requires c = let w = whole c.requires.formed.0 _ c.requires.ready.low in search rules

pub then_goal-goal-requires : goal.then_goal-goal-requires
then_goal-goal-requires c = whole c.requires.formed.0 _ c.requires.ready.low

pub behind-requires : goal.behind-requires
behind-requires c = record {
  formed = c.requires.formed;
  frame_placed = (c.requires.ready.placed, c.requires.ready.more);
}

pub returns-then-first-eq0 : goal.returns-then-first-eq0
returns-then-first-eq0 c = λ l m rs ps log H o q t. enter_ends H c.requires.ready.busy o q t (sym c.word_in-first.ensures.0 ∙ c.if-first-eq0.true) _ _ c.behind.ensures.heap_value (behind_as (then_as _ _ _ _ _ _ c.then_goal-goal.ensures) refl c.behind.ensures.behind) c.behind.auto.frames

pub returns : goal.returns
returns c = λ l m rs ps log H o q t. enter_opens H c.requires.ready.busy o q t (λ z. c.if-first-eq0.false (c.word_in-first.ensures.0 ∙ z)) _ c.save_frame.ensures.own_after (omega (arith, c.save_frame.ensures.own_len)) _ (rw (← c.word_in-first.ensures.0) c.onward.ensures) c.requires.ready.low
