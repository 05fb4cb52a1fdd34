-- One law for each kind of record.
use mathlib.Core.Path.{ap, ◌∙◌}
use Rattle.tables.specs.Starts.{window_in, window_lent}
use Rattle.plans.specs.Turns.{side_call, side_construct, side_none}
use Rattle.plans.proofs.sides.side_of.Goals as goal

pub returns-then-kind-eq-CALL : goal.returns-then-kind-eq-CALL
returns-then-kind-eq-CALL c =
    side_call c.args.file.now c.args.i c.word-kind.ensures.0 c.if-kind-eq-CALL.true c.args.at

pub returns-then-kind-eq-CONSTRUCT : goal.returns-then-kind-eq-CONSTRUCT
returns-then-kind-eq-CONSTRUCT c =
    side_construct c.requires.given c.args.i c.requires.i_nonzero.0 c.requires.i_nonzero.1 c.args.at c.word-kind.ensures.0 c.if-kind-eq-CALL.false c.if-kind-eq-CONSTRUCT.true
    (window_lent c.args.table.now _ c.start_of-start.ensures.value ∙ ap (window_in c.args.table.now) c.owner_of.ensures) c.word.ensures.0 c.home.ensures

pub returns : goal.returns
returns c =
    side_none c.args.file.now c.args.i c.word-kind.ensures.0 c.if-kind-eq-CALL.false c.if-kind-eq-CONSTRUCT.false c.args.at
