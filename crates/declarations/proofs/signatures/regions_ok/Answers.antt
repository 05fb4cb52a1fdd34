-- The rest of the chain decides as the whole does.
use Rattle.std.proofs.Common.{arith}
use mathlib.Core.Path.{refl, ◌∙◌}
use Rattle.chains.specs.Formed.{regions_none}
use Rattle.chains.specs.Is.{chain_next}
use Rattle.laws.specs.Lists.{all_end, all_no, all_yes}
use Rattle.declarations.proofs.SignaturesLaws.{regions_step}
use Rattle.declarations.proofs.signatures.regions_ok.Goals as goal

pub loop-i-init : goal.loop-i-init
loop-i-init c = (c.requires.stands, refl)

pub region_ok-requires : goal.region_ok-requires
region_ok-requires c = record {
  declares = c.requires.declares;
  stands = (c.loop-i.invariant.0, c.loop-i-test.true);
}

pub returns-then-not-region_ok : goal.returns-then-not-region_ok
returns-then-not-region_ok c = all_no _ (regions_step c.requires.declares.0.formed c.loop-i.invariant.0 c.loop-i-test.true) c.region_ok.ensures c.if-not-region_ok.true ∙ c.loop-i.invariant.1

pub word-i-requires : goal.word-i-requires
word-i-requires c = record {
  formed = c.requires.declares.0.formed;
  k_lt_record_words = (omega arith, c.loop-i.invariant.0.below);
}

pub loop-i-smaller : goal.loop-i-smaller
loop-i-smaller c = (chain_next c.requires.declares.0.formed c.loop-i.invariant.0 c.loop-i-test.true c.word-i.ensures.0).falls

pub loop-i-preserved : goal.loop-i-preserved
loop-i-preserved c = ((chain_next c.requires.declares.0.formed c.loop-i.invariant.0 c.loop-i-test.true c.word-i.ensures.0).stands, rw c.word-i.ensures.0 (all_yes _ (regions_step c.requires.declares.0.formed c.loop-i.invariant.0 c.loop-i-test.true) c.region_ok.ensures c.if-not-region_ok.false) ∙ c.loop-i.invariant.1)

pub returns : goal.returns
returns c = all_end _ (regions_none _ c.loop-i-test.false) ∙ c.loop-i.invariant.1
