-- What is left of the two chains decides as the whole does.
use mathlib.Core.Path.{refl, ◌∙◌}
use Rattle.std.proofs.Common.{arith}
use native.Mathlib.Numerals.{add-one}
use Rattle.declarations.specs.Own.{declared}
use Rattle.chains.specs.Formed.{ahead_below}
use Rattle.chains.specs.Is.{chain_next}
use Rattle.declarations.proofs.EdgeLaws.{fit_here, fit_next, edges_wrong, edges_next, edges_end}
use Rattle.declarations.proofs.edges.edges_ok.Goals as goal

pub loop-i-init : goal.loop-i-init
loop-i-init c = (c.requires.stands, c.requires.stands_2, omega (arith, ahead_below c.requires.declares.0.formed c.args.start), refl)

pub functor_edges-requires : goal.functor_edges-requires
functor_edges-requires c = record {
  declares = c.requires.declares;
  stands = c.loop-i.invariant.1;
  stands_2 = (c.loop-i.invariant.0.0, c.loop-i-test.true);
  i_value = fit_here _ c.requires.declares.0.formed c.loop-i.invariant.0.0 c.loop-i-test.true c.loop-i.invariant.0.1;
}

pub returns-in_default : goal.returns-in_default
returns-in_default c = edges_wrong _ _ _ c.requires.declares.0.formed c.loop-i.invariant.0.0 c.loop-i-test.true c.functor_edges.ensures c.in_default.is ∙ c.loop-i.invariant.3

pub overflow_add-g : goal.overflow_add-g
overflow_add-g c = omega arith

pub word-i-requires : goal.word-i-requires
word-i-requires c = record {
  formed = c.requires.declares.0.formed;
  k_lt_record_words = (omega arith, c.loop-i.invariant.0.0.below);
}

pub loop-i-smaller : goal.loop-i-smaller
loop-i-smaller c = (chain_next c.requires.declares.0.formed c.loop-i.invariant.0.0 c.loop-i-test.true c.word-i.ensures.0).falls

pub loop-i-preserved : goal.loop-i-preserved
loop-i-preserved c = let F = c.requires.declares.0.formed in
    let l = c.loop-i.invariant in
    let z = c.loop-i-test.true in
    let o = chain_next F l.0.0 z c.word-i.ensures.0 in
    ((o.stands, fit_next _ F l.0.0 z l.0.1 c.word-i.ensures.0), c.functor_edges.ensures.stands _ c.in-Some.is, omega (arith, o.falls), edges_next _ _ _ F l.0.0 z c.functor_edges.ensures c.in-Some.is c.word-i.ensures.0 (add-one c.loop-i.g) ∙ l.3)

pub returns : goal.returns
returns c = edges_end _ _ _ c.requires.declares.0.formed c.loop-i.invariant.1 c.loop-i-test.false (declared _ _) ∙ c.loop-i.invariant.3
