use Rattle.std.proofs.Common.{arith}
use mathlib.Core.Path.{refl}
use Rattle.chains.specs.Is.{procedure_is}
use Rattle.chains.specs.Declared.{procedure_at_law}
use Rattle.chains.specs.Shapes.{to_arguments}
use Rattle.declarations.specs.Functors.{stands_same}
use Rattle.declarations.specs.Declares.{procedure_stands}
use Rattle.typing.proofs.CallsLaws.{call_none, call_some}
use Rattle.typing.proofs.calls.call_ok.Goals as goal

pub word-requires : goal.word-requires
word-requires c = record {
  formed = c.requires.declares.0.formed;
  k_lt_record_words = (omega arith, c.requires.call.1);
}

pub returns-then-callee-eq0 : goal.returns-then-callee-eq0
returns-then-callee-eq0 c = call_none c.requires.declares.0 _ _ c.requires.call.0 c.word.ensures.0 c.procedure-callee.ensures c.if-callee-eq0.true

pub word-start-requires : goal.word-start-requires
word-start-requires c = record {
  formed = c.requires.declares.0.formed;
  k_lt_record_words = (omega arith, (stands_same c.procedure-callee.ensures (procedure_stands c.requires.declares.0 _)).below);
}

pub word-requires-2 : goal.word-requires-2
word-requires-2 c = record {
  formed = c.requires.declares.0.formed;
  k_lt_record_words = (omega arith, c.requires.call.1);
}

pub match_arguments-requires : goal.match_arguments-requires
match_arguments-requires c = let F = c.requires.declares.0.formed in let p = procedure_at_law F refl (procedure_is (stands_same c.procedure-callee.ensures (procedure_stands c.requires.declares.0 _)) c.if-callee-eq0.false) in record {
  declares = c.requires.declares;
  stands = (stands_same c.word-start.ensures.0 p.to_variables.stands, (to_arguments F c.requires.call.0 c.word-2.ensures.0).stands);
}

pub returns : goal.returns
returns c = call_some c.requires.declares.0 _ _ c.requires.call.0 c.word.ensures.0 c.procedure-callee.ensures c.if-callee-eq0.false c.word-start.ensures.0 c.word-2.ensures.0 c.match_arguments.ensures
