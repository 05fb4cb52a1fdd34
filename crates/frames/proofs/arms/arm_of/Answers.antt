-- The arm is still to be found in the rest of the chain.
use mathlib.Core.Path.{refl, sym, ◌∙◌}
use Rattle.chains.specs.Formed.{counted}
use Rattle.chains.specs.Records.{records_none, records_step, next_onward}
use Rattle.frames.specs.Arms.{arm_none, arm_here, arm_later}
use Rattle.frames.specs.Strays.{whole}
use Rattle.std.proofs.Common.{rules}
use Rattle.frames.proofs.arms.arm_of.Goals as goal

pub loop-at-init : goal.loop-at-init
loop-at-init c = (c.requires.start_bound, refl)

pub word_in-requires : goal.word_in-requires
word_in-requires c = let w = whole c.requires.formed c.loop-at.at c.loop-at.invariant.0 in search rules

pub returns-then-word_in-functor : goal.returns-then-word_in-functor
returns-then-word_in-functor c = record {
  value = arm_here _ _ c.loop-at.at _ _ (records_step c.requires.formed c.loop-at-test.true c.loop-at.invariant.0 refl) (sym c.word_in.ensures.0 ∙ c.if-word_in-functor.true) ∙ c.loop-at.invariant.1;
  upper_bound = c.loop-at.invariant.0;
}

pub word_in-at-requires : goal.word_in-at-requires
word_in-at-requires c = let w = whole c.requires.formed c.loop-at.at c.loop-at.invariant.0 in search rules

pub loop-at-smaller : goal.loop-at-smaller
loop-at-smaller c = (next_onward c.requires.formed c.loop-at-test.true c.loop-at.invariant.0 c.word_in-at.ensures.0).falls

pub loop-at-preserved : goal.loop-at-preserved
loop-at-preserved c =
    let F = c.requires.formed in
    let t = c.loop-at-test.true in (
      (next_onward F t c.loop-at.invariant.0 c.word_in-at.ensures.0).stands.below,
      arm_later _ _ c.loop-at.at _ _ (records_step F t c.loop-at.invariant.0 c.word_in-at.ensures.0) (λ z. c.if-word_in-functor.false (c.word_in.ensures.0 ∙ z)) ∙ c.loop-at.invariant.1,
    )

pub returns : goal.returns
returns c = record {
  value = arm_none _ _ _ (records_none _ c.loop-at-test.false) ∙ c.loop-at.invariant.1;
  upper_bound = (counted c.requires.formed).some;
}
