-- What the rest of the chain has is what the whole has.
use mathlib.Core.Path.{refl, ◌∙◌}
use Rattle.chains.specs.Formed.{edges_none}
use Rattle.chains.specs.Is.{chain_next}
use Rattle.regions.proofs.TermsLaws.{target_none, functor_passed, position_passed, edge_found}
use Rattle.regions.proofs.terms.target_for.Goals as goal

pub loop-i-init : goal.loop-i-init
loop-i-init c = (c.requires.stands, refl)

pub returns-then-word-k : goal.returns-then-word-k
returns-then-word-k c =
    let z = c.loop-i-test.true in
    edge_found _ _ c.requires.formed c.loop-i.invariant.0 z c.args.f c.args.k c.word.ensures.0 c.if-word-f.true c.word-then-word-f.ensures.0 c.if-word-k.true c.word-then-word-k.ensures.0 ∙ c.loop-i.invariant.1

pub loop-i-smaller-else-word-k : goal.loop-i-smaller-else-word-k
loop-i-smaller-else-word-k c =
    let z = c.loop-i-test.true in
    let n = c.word-next.ensures.0 in
    (chain_next c.requires.formed c.loop-i.invariant.0 z n).falls

pub loop-i-preserved-else-word-k : goal.loop-i-preserved-else-word-k
loop-i-preserved-else-word-k c =
    let z = c.loop-i-test.true in
    let n = c.word-next.ensures.0 in
    let o = chain_next c.requires.formed c.loop-i.invariant.0 z n in
    (o.stands, position_passed _ _ c.requires.formed c.loop-i.invariant.0 z c.args.f c.args.k c.word.ensures.0 c.if-word-f.true c.word-then-word-f.ensures.0 c.if-word-k.false n ∙ c.loop-i.invariant.1)

pub loop-i-smaller : goal.loop-i-smaller
loop-i-smaller c =
    let z = c.loop-i-test.true in
    let n = c.word-next.ensures.0 in
    (chain_next c.requires.formed c.loop-i.invariant.0 z n).falls

pub loop-i-preserved : goal.loop-i-preserved
loop-i-preserved c =
    let z = c.loop-i-test.true in
    let n = c.word-next.ensures.0 in
    let o = chain_next c.requires.formed c.loop-i.invariant.0 z n in
    (o.stands, functor_passed _ _ c.requires.formed c.loop-i.invariant.0 z c.args.f c.args.k c.word.ensures.0 c.if-word-f.false n ∙ c.loop-i.invariant.1)

pub returns : goal.returns
returns c =
    target_none c.args.f c.args.k (edges_none c.args.file.now c.loop-i-test.false) ∙ c.loop-i.invariant.1
