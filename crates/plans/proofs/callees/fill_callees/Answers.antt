-- The procedures from q on are still to do.
use Rattle.std.proofs.Common.{arith}
use mathlib.Core.Path.{ap, ◌∙◌}
use Rattle.tables.specs.Starts.{window_lent}
use Rattle.plans.specs.Passes.{put_callee, callees_of}
use Rattle.plans.specs.Rising.{rising_first, rising_more, rising_last}
use Rattle.plans.proofs.callees.fill_callees.Goals as goal

pub loop-q-init : goal.loop-q-init
loop-q-init c = rising_first _ _

pub loop-q-preserved : goal.loop-q-preserved
loop-q-preserved c =
    let w = window_lent c.args.table.now c.loop-q.q c.start_of-start.ensures.value in
    rising_more _ c.loop-q.invariant c.loop-q-test.true (c.put_callee.ensures ∙ ap (λ own. put_callee own c.loop-q.q c.loop-q.callees) w)

pub returns : goal.returns
unfolding callees_of
returns c = rising_last _ c.loop-q.invariant (omega arith)
