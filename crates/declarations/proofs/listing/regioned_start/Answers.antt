-- The rest of the chain decides as the whole does.
use Rattle.std.proofs.Common.{arith}
use mathlib.Core.Path.{refl, ◌∙◌}
use Rattle.chains.specs.Formed.{counted}
use Rattle.chains.specs.Is.{chain_next}
use Rattle.declarations.proofs.DeclaresLaws.{constants_end, constants_stop, constants_next}
use Rattle.declarations.proofs.listing.regioned_start.Goals as goal

pub loop-i-init : goal.loop-i-init
loop-i-init c = (c.requires.stands, refl)

pub word-requires : goal.word-requires
word-requires c = record {
  formed = c.requires.formed;
  k_lt_record_words = (omega arith, c.loop-i.invariant.0.below);
}

pub narrow-requires : goal.narrow-requires
narrow-requires c = omega (arith, (counted c.requires.formed).most, c.requires.stands.below)

pub returns-then-word-ne0 : goal.returns-then-word-ne0
returns-then-word-ne0 c = c.narrow.ensures ∙ constants_stop _ _ c.loop-i.invariant.1 c.requires.formed c.loop-i.invariant.0 c.loop-i-test.true c.word.ensures.0 c.if-word-ne0.true

pub word-i-requires : goal.word-i-requires
word-i-requires c = record {
  formed = c.requires.formed;
  k_lt_record_words = (omega arith, c.loop-i.invariant.0.below);
}

pub loop-i-smaller : goal.loop-i-smaller
loop-i-smaller c = (chain_next c.requires.formed c.loop-i.invariant.0 c.loop-i-test.true c.word-i.ensures.0).falls

pub loop-i-preserved : goal.loop-i-preserved
loop-i-preserved c = ((chain_next c.requires.formed c.loop-i.invariant.0 c.loop-i-test.true c.word-i.ensures.0).stands, constants_next _ _ c.loop-i.invariant.1 c.requires.formed c.loop-i.invariant.0 c.loop-i-test.true c.word.ensures.0 (omega (arith, c.if-word-ne0.false)) c.word-i.ensures.0)

pub returns : goal.returns
returns c = constants_end _ _ c.loop-i.invariant.1 c.loop-i-test.false
