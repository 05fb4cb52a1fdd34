-- What the rest of the chain has for the functor is what the whole has.
use mathlib.Core.Path.{refl, ◌∙◌}
use Rattle.chains.specs.Is.{chain_next}
use Rattle.regions.proofs.TermsLaws.{functor_passed}
use Rattle.regions.proofs.terms.edges_for.Goals as goal

pub loop-i-init : goal.loop-i-init
loop-i-init c = (c.requires.stands, λ k. refl)

pub loop-i-smaller : goal.loop-i-smaller
loop-i-smaller c =
    (chain_next c.requires.formed c.loop-i.invariant.0 c.loop-i-test.true c.word-i.ensures.0).falls

pub loop-i-preserved : goal.loop-i-preserved
loop-i-preserved c =
    let z = c.loop-i-test.true in
    ((chain_next c.requires.formed c.loop-i.invariant.0 z c.word-i.ensures.0).stands, λ k. functor_passed _ _ c.requires.formed c.loop-i.invariant.0 z c.args.f k c.word.ensures.0 c.if-word-f.false c.word-i.ensures.0 ∙ c.loop-i.invariant.1 k)

pub returns : goal.returns
returns c = record {
  stands_2 = c.loop-i.invariant.0;
  by_index = c.loop-i.invariant.1;
}
