-- The records below i are still to do.
use Rattle.language.specs.File.{record_count}
use Rattle.plans.specs.Passes.{joined_at}
use Rattle.plans.specs.Down.{Down}
use Rattle.plans.specs.Links.{Joinable}
use Rattle.plans.proofs.joining.join_records.Given as goal

abbrev pub invariant-loop-i : goal.invariant-loop-i
invariant-loop-i l = Down (joined_at l.file) (record_count l.file) l.initial.plan l.i l.plan × Joinable l.file l.i l.plan
