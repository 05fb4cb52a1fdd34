-- The rest of the chain decides as the whole does.
use Rattle.std.proofs.Common.{arith}
use mathlib.Core.Path.{refl, ◌∙◌}
use Rattle.chains.specs.Formed.{variables_none}
use Rattle.chains.specs.Is.{chain_next}
use Rattle.laws.specs.Lists.{all_end, all_no, all_yes}
use Rattle.declarations.proofs.SignaturesLaws.{variables_step}
use Rattle.declarations.proofs.signatures.variables_ok.Goals as goal

pub loop-i-init : goal.loop-i-init
loop-i-init c = (c.requires.stands, refl)

pub variable_ok-requires : goal.variable_ok-requires
variable_ok-requires c = record {
  declares = c.requires.declares;
  stands = c.loop-i.invariant.0;
}

pub returns-then-not-variable_ok : goal.returns-then-not-variable_ok
returns-then-not-variable_ok c = all_no _ (variables_step c.requires.declares.0.formed c.loop-i.invariant.0 c.loop-i-test.true) c.variable_ok.ensures c.if-not-variable_ok.true ∙ c.loop-i.invariant.1

pub word-i-requires : goal.word-i-requires
word-i-requires c = record {
  formed = c.requires.declares.0.formed;
  k_lt_record_words = (omega arith, c.loop-i.invariant.0.below);
}

pub loop-i-smaller : goal.loop-i-smaller
loop-i-smaller c = (chain_next c.requires.declares.0.formed c.loop-i.invariant.0 c.loop-i-test.true c.word-i.ensures.0).falls

pub loop-i-preserved : goal.loop-i-preserved
loop-i-preserved c = ((chain_next c.requires.declares.0.formed c.loop-i.invariant.0 c.loop-i-test.true c.word-i.ensures.0).stands, rw c.word-i.ensures.0 (all_yes _ (variables_step c.requires.declares.0.formed c.loop-i.invariant.0 c.loop-i-test.true) c.variable_ok.ensures c.if-not-variable_ok.false) ∙ c.loop-i.invariant.1)

pub returns : goal.returns
returns c = all_end _ (variables_none _ c.loop-i-test.false) ∙ c.loop-i.invariant.1
