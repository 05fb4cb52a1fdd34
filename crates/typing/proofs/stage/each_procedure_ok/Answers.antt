-- The rest of the chain decides as the whole does.
use Rattle.std.proofs.Common.{arith}
use mathlib.Core.Path.{refl, ◌∙◌}
use Rattle.chains.specs.Formed.{procedures_none}
use Rattle.chains.specs.Is.{chain_next}
use Rattle.laws.specs.Lists.{all_end}
use Rattle.typing.proofs.ProceduresLaws.{procedures_no, procedures_yes}
use Rattle.typing.proofs.stage.each_procedure_ok.Goals as goal

pub loop-i-init : goal.loop-i-init
loop-i-init c = (c.requires.stands, refl)

pub procedure_ok-requires : goal.procedure_ok-requires
procedure_ok-requires c = record {
  declares = c.requires.declares;
  stands = (c.loop-i.invariant.0, c.loop-i-test.true);
}

pub returns-then-not-procedure_ok : goal.returns-then-not-procedure_ok
returns-then-not-procedure_ok c = procedures_no _ _ c.requires.declares.formed c.loop-i.invariant.0 c.loop-i-test.true c.procedure_ok.ensures c.if-not-procedure_ok.true ∙ c.loop-i.invariant.1

pub word-i-requires : goal.word-i-requires
word-i-requires c = record {
  formed = c.requires.declares.formed;
  k_lt_record_words = (omega arith, c.loop-i.invariant.0.below);
}

pub loop-i-smaller : goal.loop-i-smaller
loop-i-smaller c = (chain_next c.requires.declares.formed c.loop-i.invariant.0 c.loop-i-test.true c.word-i.ensures.0).falls

pub loop-i-preserved : goal.loop-i-preserved
loop-i-preserved c = ((chain_next c.requires.declares.formed c.loop-i.invariant.0 c.loop-i-test.true c.word-i.ensures.0).stands, procedures_yes _ _ c.requires.declares.formed c.loop-i.invariant.0 c.loop-i-test.true c.procedure_ok.ensures c.if-not-procedure_ok.false c.word-i.ensures.0 ∙ c.loop-i.invariant.1)

pub returns : goal.returns
returns c = all_end _ (procedures_none _ c.loop-i-test.false) ∙ c.loop-i.invariant.1
