use Rattle.std.proofs.Common.{arith}
use mathlib.Core.Path.{refl, sym, ◌∙◌}
use Rattle.chains.specs.Is.{procedure_is}
use Rattle.chains.specs.Declared.{procedure_at_law}
use Rattle.declarations.specs.Functors.{stands_same}
use Rattle.typing.proofs.ProceduresLaws.{many_declared, wrong_signature, procedure_all}
use Rattle.typing.proofs.stage.procedure_ok.Goals as goal

pub counts_ok-requires : goal.counts_ok-requires
counts_ok-requires c = record {
  formed = c.requires.declares.formed;
  stands = c.requires.stands;
}

pub returns-then-not-counts_ok : goal.returns-then-not-counts_ok
returns-then-not-counts_ok c = many_declared _ _ c.counts_ok.ensures c.if-not-counts_ok.true

pub list_own-requires : goal.list_own-requires
list_own-requires c = record {
  formed = c.requires.declares.formed;
  stands = c.requires.stands;
  i_value = (sym c.counts_ok.ensures ∙ c.if-not-counts_ok.false, refl);
}

pub signature_ok-requires : goal.signature_ok-requires
signature_ok-requires c = (c.requires.declares, c.list_own.ensures.0)

pub returns-then-not-signature_ok : goal.returns-then-not-signature_ok
returns-then-not-signature_ok c = wrong_signature _ _ c.counts_ok.ensures c.if-not-counts_ok.false c.list_own.ensures.1 c.signature_ok.ensures c.if-not-signature_ok.true

pub word-requires : goal.word-requires
word-requires c = record {
  formed = c.requires.declares.formed;
  k_lt_record_words = (omega arith, c.requires.stands.0.below);
}

pub goals-requires : goal.goals-requires
goals-requires c = record {
  declares = (c.requires.declares, c.list_own.ensures.0);
  stands = stands_same c.word.ensures.0 (procedure_at_law c.requires.declares.formed refl (procedure_is c.requires.stands.0 c.requires.stands.1)).to_goals.stands;
}

pub returns : goal.returns
returns c = procedure_all _ _ c.counts_ok.ensures c.if-not-counts_ok.false c.list_own.ensures.1 c.signature_ok.ensures c.if-not-signature_ok.false c.word.ensures.0 c.goals.ensures
