-- The procedures from q on are still to do.
use Rattle.language.specs.Format.{max_procedures}
use Rattle.tables.specs.Starts.{window_in}
use Rattle.plans.specs.Passes.{put_callee}
use Rattle.plans.specs.Rising.{Rising}
use Rattle.plans.proofs.callees.fill_callees.Given as goal

abbrev pub invariant-loop-q : goal.invariant-loop-q
invariant-loop-q l = Rising (λ p. put_callee (window_in l.table p) p) max_procedures l.initial.callees l.q l.callees
