-- A call's arguments by its callee's window, and nothing at other records.
use mathlib.Core.Path.{sym, ◌∙◌}
use Rattle.chains.specs.Shapes.{to_arguments}
use Rattle.tables.specs.Starts.{window_lent}
use Rattle.plans.specs.Turns.{placed_none, callee_window, placed_call}
use Rattle.plans.proofs.arguments.match_record.Goals as goal

pub returns-then-word-ne-CALL : goal.returns-then-word-ne-CALL
returns-then-word-ne-CALL c =
    placed_none c.args.file.now c.args.i c.word.ensures.0 c.if-word-ne-CALL.true c.args.plan.now

pub match_call-requires : goal.match_call-requires
match_call-requires c = let F = c.requires.typed_and_filled.formed in let k = c.if-word-ne-CALL.false in let e = c.word.ensures.0 in let W = callee_window c.requires.typed_and_filled c.args.i c.requires.i_nonzero.0 c.requires.i_nonzero.1 e k c.word-2.ensures.0 (window_lent c.args.table.now _ c.start_of-start.ensures.value) in record {
  formed = F;
  stands = W.variables_stand;
  stands_2 = (to_arguments F (sym e ∙ k) c.word-arguments.ensures.0).stands;
}

pub returns : goal.returns
returns c =
    placed_call c.requires.typed_and_filled c.args.i c.requires.i_nonzero.0 c.requires.i_nonzero.1 c.word.ensures.0 c.if-word-ne-CALL.false c.word-2.ensures.0
    (window_lent c.args.table.now _ c.start_of-start.ensures.value) c.args.plan.now c.word-arguments.ensures.0 c.match_call.ensures
