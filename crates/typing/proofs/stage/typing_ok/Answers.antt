use mathlib.Core.Path.{sym, ◌∙◌}
use Rattle.typing.proofs.ProceduresLaws.{wrong_types, typing_all}
use Rattle.std.proofs.Common.{rules}
use Rattle.typing.proofs.stage.typing_ok.Goals as goal

pub types_ok-requires : goal.types_ok-requires
types_ok-requires c = search rules

pub returns-then-not-types_ok : goal.returns-then-not-types_ok
returns-then-not-types_ok c = wrong_types _ c.types_ok.ensures c.if-not-types_ok.true

pub procedures_ok-requires : goal.procedures_ok-requires
procedures_ok-requires c = record {
  formed = c.requires;
  file_value = sym c.types_ok.ensures ∙ c.if-not-types_ok.false;
}

pub returns : goal.returns
returns c = typing_all _ c.types_ok.ensures c.if-not-types_ok.false c.procedures_ok.ensures
