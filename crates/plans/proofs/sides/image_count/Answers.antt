use Rattle.tables.specs.Starts.{window_lent}
use Rattle.plans.specs.Turns.{count_call, count_none}
use Rattle.plans.proofs.sides.image_count.Goals as goal

pub returns-then-word-eq-CALL : goal.returns-then-word-eq-CALL
returns-then-word-eq-CALL c =
    count_call c.requires.typed_and_filled c.args.i c.requires.i_nonzero.0 c.requires.i_nonzero.1 c.word.ensures.0 c.if-word-eq-CALL.true c.word-then-word-eq-CALL.ensures.0 (window_lent c.args.table.now _ c.start_of-start.ensures.value) c.word_at.ensures

pub returns : goal.returns
returns c =
    count_none c.args.file.now c.args.i c.word.ensures.0 c.if-word-eq-CALL.false
